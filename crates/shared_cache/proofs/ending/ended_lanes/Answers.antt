use Rattle.std.proofs.Common.{subst, ◌∙◌, List, ap}
use Rattle.shared_cache.specs.Passes.{Ticket}
use Rattle.shared_cache.specs.Finished.{weigh_passes}
use Rattle.shared_cache.specs.Settled.{IsNotOwn, recorded_in}
use Rattle.shared_cache.proofs.Weighing.{weigh_reordered}
use Rattle.shared_cache.proofs.ending.ended_lanes.Goals as goal

pub returns-in-Ok-clause-listed : goal.returns-in-Ok-clause-listed
returns-in-Ok-clause-listed g c = λ h.
    c.in-Ok.ensures.listed h
    ∙ ap (λ (ps : List Ticket). weigh_passes h ps) c.as_slice.ensures.value
    ∙ weigh_reordered h c.args.passes.items c.by_caller-ordered.result.items c.by_caller-ordered.ensures.same

pub returns-clause-refused : goal.returns-clause-refused
returns-clause-refused g c = record {
  order = c.by_caller-ordered.result.items;
  same = c.by_caller-ordered.ensures.same;
  sorted = c.by_caller-ordered.ensures.sorted;
  why = subst (λ (ps : List Ticket). IsNotOwn (recorded_in c.args.left.items) ps c.in-Err.fault) c.as_slice.ensures.value c.in-Err.ensures.refused;
}
