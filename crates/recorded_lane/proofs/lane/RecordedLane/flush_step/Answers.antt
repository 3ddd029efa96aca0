-- The lane after a step that is no call.
use Rattle.std.proofs.Common.{refl, ap, subst}
use Rattle.mover.specs.Store.{StoreState}
use Rattle.mover.specs.Calls.{StoreFlushes}
use Rattle.recorded_lane.specs.Lane.{Lane}
use Rattle.recorded_lane.proofs.Noting.{noted_step}
use Rattle.recorded_lane.proofs.lane.RecordedLane.flush_step.Goals as goal

pub invariant_of-self : goal.invariant_of-self
invariant_of-self g c =
    let inside = c.self.inside in
    let old : Lane g.row.D.Denot = record { store = inside.store.store; lane = inside.lane; calls = inside.calls } in
    let new = c.flush_step.new.self in
    noted_step old inside.store.deeds c.self.invariant new.store inside.calls new.deeds (ap (λ (s : StoreState g.row.D.Denot). s.layout) c.flush_step.ensures.flushes.rest) refl c.flush_step.ensures.deeds

pub returns-clause-flushes : goal.returns-clause-flushes
returns-clause-flushes g c =
    let d = g.D.PageDevice in
    subst (λ (old : Lane g.row.D.Denot). StoreFlushes d.honest d.failures d.held old.store c.flush_step.result c.flush_step.new.self.store) c.self.view_is c.flush_step.ensures.flushes
