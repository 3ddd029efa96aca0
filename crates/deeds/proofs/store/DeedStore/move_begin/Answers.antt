-- The store after a move began, or a refusal.
use Rattle.std.proofs.Common.{None}
use Rattle.mover.specs.Lane.{lane_of}
use Rattle.deeds.specs.Asked.{Asked}
use Rattle.deeds.proofs.Remembering.{fewer_same, begun_stays}
use Rattle.deeds.proofs.Serves.{served_step}
use Rattle.deeds.proofs.public_laws.Sounding.{begun_in_order}
use Rattle.deeds.proofs.store.DeedStore.move_begin.Goals as goal

pub invariant_of-self : goal.invariant_of-self
invariant_of-self g c =
    let d = g.D.PageDevice in
    let old : Asked g.row.D.Denot = record { store = c.self.inside.store; deeds = c.self.inside.trail.deeds } in
    let new = c.move_begin.new.self in
    let begins = c.move_begin.ensures in
    served_step d.honest d.held old c.self.invariant new begins.writes.honesty None (fewer_same g.row.PAGE old.store new (begun_stays g.row.PAGE old.store c.move_begin.result new begins.leaves begins.out_of_memory))
    (λ is. begun_in_order c.begin_shows.ensures g.row.PAGE old.store.layout.threshold (lane_of d.held old.store) (lane_of d.held new) c.move_begin.result (c.self.invariant.order is) (begins.gives is) (begins.lane_stays is))
