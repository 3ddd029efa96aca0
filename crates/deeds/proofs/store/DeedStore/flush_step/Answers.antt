-- The store after a step of flushing.
use Rattle.std.proofs.Common.{None, ap}
use Rattle.mover.specs.Lane.{lane_of}
use Rattle.mover.specs.Store.{StoreState}
use Rattle.deeds.specs.Asked.{Asked}
use Rattle.deeds.proofs.Remembering.{fewer_same}
use Rattle.deeds.proofs.Serves.{served_step}
use Rattle.deeds.proofs.store.DeedStore.flush_step.Goals as goal

pub invariant_of-self : goal.invariant_of-self
invariant_of-self g c =
    let d = g.D.PageDevice in
    let old : Asked g.row.D.Denot = record { store = c.self.inside.store; deeds = c.self.inside.trail.deeds } in
    let new = c.flush_step.new.self in
    let flushes = c.flush_step.ensures in
    served_step d.honest d.held old c.self.invariant new flushes.honesty None (fewer_same g.row.PAGE old.store new (ap (λ (s : StoreState g.row.D.Denot). s.memory) flushes.rest))
    (λ is. c.flush_shows.ensures (lane_of d.held old.store) (lane_of d.held new) c.flush_step.result (c.self.invariant.order is) (flushes.gives is))
