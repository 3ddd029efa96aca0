-- The lane after a whole move.
use Rattle.std.proofs.Common.{◌≡◌, Ok, ap, ◌∙◌, refl, subst}
use Rattle.mover.specs.Calls.{StoreMoves}
use Rattle.service_lane.specs.Counters.{with_one_if}
use Rattle.service_lane.specs.Counting.{counts_move}
use Rattle.service_lane.specs.Serving.{Serving}
use Rattle.service_lane.proofs.Stepping.{stepped}
use Rattle.service_lane.proofs.Writing.{counted_kept}
use denote.Param.{param, number}
use Rattle.service_lane.proofs.Fitting.{asked_fits}
use Rattle.service_lane.proofs.lane.ServiceLane.move_whole.Goals as goal

pub invariant_of-self : goal.invariant_of-self
invariant_of-self g c = counted_kept c.self.inside.asked.deeds c.move_whole.new.self.deeds c.self.inside.slots c.self.inside.slots c.move_whole.ensures.deeds refl c.self.invariant

pub invariant_of-self-2 : goal.invariant_of-self-2
invariant_of-self-2 g c = counted_kept c.self.inside.asked.deeds c.move_whole.new.self.deeds c.self.inside.slots c.self.inside.slots c.move_whole.ensures.deeds refl c.self.invariant

pub returns-clause-moves : goal.returns-clause-moves
returns-clause-moves g c =
    let d = g.D.PageDevice in
    subst (λ (s : Serving g.row.D.Denot). StoreMoves g.row.PAGE d.honest d.failures d.held (g.P.EvictionPolicy.plan_of c.args.policy.now) s.store (Ok c.in-Ok.moved) c.move_whole.new.self.store) c.self.view_is c.in-Ok.ensures.moves

pub returns-clause-moved : goal.returns-clause-moved
returns-clause-moved g c =
    let i = c.self.inside in
    let asked = c.move_whole.new.self in
    let answer = c.in-Ok.moved in
    let old : Serving g.row.D.Denot = record { store = i.asked.store; deeds = i.asked.deeds; copies = i.asked.copies; slots = i.slots; counts = i.counts } in
    let new : Serving g.row.D.Denot = record { store = asked.store; deeds = asked.deeds; copies = asked.copies; slots = i.slots; counts = c.count_if.new.self } in
    let left : new ≡ record old { store = new.store; counts = counts_move answer old.counts } =
    stepped old new (counts_move answer i.counts) c.move_whole.ensures.deeds c.move_whole.ensures.copies refl (c.count_if.ensures ∙ ap (λ k. with_one_if k i.counts) c.of_moved.ensures) in
    subst (λ (s : Serving g.row.D.Denot). new ≡ record s { store = new.store; counts = counts_move answer s.counts }) c.self.view_is left

pub move_whole-requires : goal.move_whole-requires
move_whole-requires g c = asked_fits (param 0 g.row.D) (param 1 (number g.row.PAGE)) g.D.PageDevice assumption
