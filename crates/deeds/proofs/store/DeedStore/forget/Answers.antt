-- The store with what is left of the key.
use Rattle.std.proofs.Common.{Some, ap}
use Rattle.mover.specs.Lane.{LaneState, lane_of}
use Rattle.deeds.specs.Asked.{Asked}
use Rattle.deeds.proofs.Remembering.{fewer_removed}
use Rattle.deeds.proofs.Serves.{served_step}
use Rattle.deeds.proofs.store.DeedStore.forget.Goals as goal

pub invariant_of-self : goal.invariant_of-self
invariant_of-self g c =
    let d = g.D.PageDevice in
    let old : Asked g.row.D.Denot = record { store = c.self.inside.store; deeds = c.self.inside.trail.deeds } in
    let key = c.args.key.now in
    let new = c.forget.new.self in
    let removes = c.forget.ensures in
    served_step d.honest d.held old c.self.invariant new (ap d.honest removes.device) (Some key) (fewer_removed g.row.PAGE old.store key new (ap (λ (l : LaneState). l.memory) removes.removed))
    (λ is. c.removal_shows.ensures key (lane_of d.held old.store) (lane_of d.held new) (c.self.invariant.order is) removes.removed)
