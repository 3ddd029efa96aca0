-- The store after a move was given up.
use Rattle.std.proofs.Common.{None, ap}
use Rattle.mover.specs.Lane.{lane_of}
use Rattle.deeds.specs.Asked.{Asked}
use Rattle.deeds.proofs.Remembering.{fewer_same, aborted_stays}
use Rattle.deeds.proofs.Serves.{served_step}
use Rattle.deeds.proofs.store.DeedStore.move_abort.Goals as goal

pub invariant_of-self : goal.invariant_of-self
invariant_of-self g c =
    let d = g.D.PageDevice in
    let old : Asked g.row.D.Denot = record { store = c.self.inside.store; deeds = c.self.inside.trail.deeds } in
    let new = c.move_abort.new.self in
    let ended = c.move_abort.ensures in
    let stays = aborted_stays g.row.PAGE old.store c.args.number c.move_abort.result new ended.leaves in
    served_step d.honest d.held old c.self.invariant new (ap d.honest stays.1) None (fewer_same g.row.PAGE old.store new stays.0)
    (λ is. c.abort_shows.ensures c.args.number (lane_of d.held old.store) (lane_of d.held new) c.move_abort.result (c.self.invariant.order is) ended.gives)
