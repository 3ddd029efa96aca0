-- The lane after a move was given up.
use Rattle.std.proofs.Common.{refl, ap, ◌∙◌, subst}
use Rattle.mover.specs.Store.{StoreState}
use Rattle.mover.specs.Calls.{StoreAborts}
use Rattle.recorded_lane.proofs.public_laws.Ending.{abort_keeps_layout}
use Rattle.recorded_lane.specs.Lane.{Lane}
use Rattle.recorded_lane.proofs.Noting.{noted_step}
use Rattle.recorded_lane.proofs.lane.RecordedLane.move_abort.Goals as goal

pub invariant_of-self : goal.invariant_of-self
invariant_of-self g c =
    let inside = c.self.inside in
    let old : Lane g.row.D.Denot = record { store = inside.store.store; lane = inside.lane; calls = inside.calls } in
    let new = c.move_abort.new.self in
    noted_step old inside.store.deeds c.self.invariant new.store inside.calls new.deeds (ap (λ (s : StoreState g.row.D.Denot). s.layout) c.move_abort.ensures.aborts.leaves ∙ abort_keeps_layout c.args.number c.move_abort.result inside.store.store) refl c.move_abort.ensures.deeds

pub returns-clause-aborts : goal.returns-clause-aborts
returns-clause-aborts g c =
    let d = g.D.PageDevice in
    subst (λ (old : Lane g.row.D.Denot). StoreAborts d.held c.args.number old.store c.move_abort.result c.move_abort.new.self.store) c.self.view_is c.move_abort.ensures.aborts
