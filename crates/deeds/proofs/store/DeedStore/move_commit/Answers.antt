-- The store after a move ended, or was not to end.
use Rattle.std.proofs.Common.{None}
use Rattle.mover.specs.Lane.{lane_of}
use Rattle.deeds.specs.Asked.{Asked}
use Rattle.deeds.proofs.Remembering.{fewer_same, committed_stays}
use Rattle.deeds.proofs.Serves.{served_step}
use Rattle.deeds.proofs.store.DeedStore.move_commit.Goals as goal

pub invariant_of-self : goal.invariant_of-self
invariant_of-self g c =
    let d = g.D.PageDevice in
    let old : Asked g.row.D.Denot = record { store = c.self.inside.store; deeds = c.self.inside.trail.deeds } in
    let new = c.move_commit.new.self in
    let ended = c.move_commit.ensures in
    served_step d.honest d.held old c.self.invariant new ended.honesty None (fewer_same g.row.PAGE old.store new (committed_stays g.row.PAGE old.store c.args.plan.now c.args.number c.move_commit.result new ended.leaves))
    (λ is. c.commit_shows.ensures g.row.PAGE c.args.plan.now c.args.number (lane_of d.held old.store) (lane_of d.held new) c.move_commit.result (c.self.invariant.order is) (ended.gives is))
