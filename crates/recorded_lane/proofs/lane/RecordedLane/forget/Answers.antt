-- The lane with what is left of the key.
use Rattle.std.proofs.Common.{refl, subst}
use Rattle.mover.specs.Calls.{StoreRemoves}
use Rattle.recorded_lane.specs.Lane.{Lane}
use Rattle.recorded_lane.proofs.Noting.{noted_step}
use Rattle.recorded_lane.proofs.lane.RecordedLane.forget.Goals as goal

pub invariant_of-self : goal.invariant_of-self
invariant_of-self g c =
    let inside = c.self.inside in
    let old : Lane g.row.D.Denot = record { store = inside.store.store; lane = inside.lane; calls = inside.calls } in
    let new = c.forget.new.self in
    noted_step old inside.store.deeds c.self.invariant new.store inside.calls new.deeds c.forget.ensures.removes.layout refl c.forget.ensures.deeds

pub returns-clause-removes : goal.returns-clause-removes
returns-clause-removes g c =
    let d = g.D.PageDevice in
    subst (λ (old : Lane g.row.D.Denot). StoreRemoves d.held c.args.key.now old.store c.forget.new.self.store) c.self.view_is c.forget.ensures.removes
