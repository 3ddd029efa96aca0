-- The store after a removal.
use Rattle.std.proofs.Common.{ap}
use Rattle.mover.specs.Lane.{LaneState, lane_of}
use Rattle.deeds.specs.Asked.{Asked}
use Rattle.deeds.proofs.Serves.{served_removed}
use Rattle.deeds.proofs.store.DeedStore.remove.Goals as goal

pub invariant_of-self : goal.invariant_of-self
invariant_of-self g c =
    let d = g.D.PageDevice in
    let old : Asked g.row.D.Denot = record { store = c.self.inside.store; deeds = c.self.inside.trail.deeds } in
    let new = c.remove_bytes.new.self in
    let removes = c.remove_bytes.ensures in
    served_removed d.honest d.held old c.self.invariant new (ap d.honest removes.device) c.args.key.now _ c.then.ensures
    (ap (λ (l : LaneState). l.memory) removes.removed)
    (λ is. c.removal_shows.ensures c.args.key.now (lane_of d.held old.store) (lane_of d.held new) (c.self.invariant.order is) removes.removed)
