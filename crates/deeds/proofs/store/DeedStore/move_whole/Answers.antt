-- The store after a whole move, or a refused one.
use Rattle.std.proofs.Common.{None}
use Rattle.mover.specs.Lane.{lane_of}
use Rattle.mover.proofs.public_laws.FlightLists.{flights_counted}
use Rattle.deeds.specs.Asked.{Asked}
use Rattle.deeds.proofs.Remembering.{fewer_same, moved_stays}
use Rattle.deeds.proofs.Serves.{served_step}
use Rattle.deeds.proofs.public_laws.Sounding.{moved_in_order}
use Rattle.deeds.proofs.store.DeedStore.move_whole.Goals as goal

pub invariant_of-self : goal.invariant_of-self
invariant_of-self g c =
    let d = g.D.PageDevice in
    let old : Asked g.row.D.Denot = record { store = c.self.inside.store; deeds = c.self.inside.trail.deeds } in
    let new = c.move_whole.new.self in
    let moves = c.move_whole.ensures in
    let plan_of = g.P.EvictionPolicy.plan_of c.args.policy.now in
    served_step d.honest d.held old c.self.invariant new moves.honesty None (fewer_same g.row.PAGE old.store new (moved_stays g.row.PAGE old.store plan_of c.move_whole.result new moves.leaves moves.out_of_memory))
    (λ is. moved_in_order c.whole_move_shows.ensures g.row.PAGE old.store.layout.threshold plan_of (lane_of d.held old.store) (lane_of d.held new) c.move_whole.result
    (c.self.invariant.order is) (flights_counted old.store.log.shape old.store.moves old.store.flights c.layout-layout.ensures.kept.flights) (moves.planned is) (moves.gives is) (moves.lane_stays is))
