-- The lane after a step of flushing.
use Rattle.std.proofs.Common.{◌≡◌, ap, ◌∙◌, refl, subst}
use Rattle.mover.specs.Calls.{StoreFlushes}
use Rattle.service_lane.specs.Counters.{with_one_if}
use Rattle.service_lane.specs.Counting.{counts_flush}
use Rattle.service_lane.specs.Serving.{Serving}
use Rattle.service_lane.proofs.Stepping.{stepped}
use Rattle.service_lane.proofs.Writing.{counted_kept}
use denote.Param.{param, number}
use Rattle.service_lane.proofs.Fitting.{asked_fits}
use Rattle.service_lane.proofs.lane.ServiceLane.flush_step.Goals as goal

pub invariant_of-self : goal.invariant_of-self
invariant_of-self g c = counted_kept c.self.inside.asked.deeds c.flush_step-flushed.new.self.deeds c.self.inside.slots c.self.inside.slots c.flush_step-flushed.ensures.deeds refl c.self.invariant

pub returns-clause-leaves : goal.returns-clause-leaves
returns-clause-leaves g c =
    let i = c.self.inside in
    let asked = c.flush_step-flushed.new.self in
    let answer = c.flush_step-flushed.result in
    let old : Serving g.row.D.Denot = record { store = i.asked.store; deeds = i.asked.deeds; copies = i.asked.copies; slots = i.slots; counts = i.counts } in
    let new : Serving g.row.D.Denot = record { store = asked.store; deeds = asked.deeds; copies = asked.copies; slots = i.slots; counts = c.count_if.new.self } in
    let left : new ≡ record old { store = new.store; counts = counts_flush answer old.counts } =
    stepped old new (counts_flush answer i.counts) c.flush_step-flushed.ensures.deeds c.flush_step-flushed.ensures.copies refl (c.count_if.ensures ∙ ap (λ k. with_one_if k i.counts) c.of_flushed.ensures) in
    subst (λ (s : Serving g.row.D.Denot). new ≡ record s { store = new.store; counts = counts_flush answer s.counts }) c.self.view_is left

pub returns-clause-flushes : goal.returns-clause-flushes
returns-clause-flushes g c =
    let d = g.D.PageDevice in
    subst (λ (s : Serving g.row.D.Denot). StoreFlushes d.honest d.failures d.held s.store c.flush_step-flushed.result c.flush_step-flushed.new.self.store) c.self.view_is c.flush_step-flushed.ensures.flushes

pub flush_step-flushed-requires : goal.flush_step-flushed-requires
flush_step-flushed-requires g c = asked_fits (param 0 g.row.D) (param 1 (number g.row.PAGE)) g.D.PageDevice assumption
