-- The lane after a whole move, or a refused one.
use Rattle.std.proofs.Common.{refl, subst}
use Rattle.mover.specs.Calls.{StoreMoves}
use Rattle.recorded_lane.specs.Lane.{Lane}
use Rattle.recorded_lane.proofs.Noting.{noted_step}
use Rattle.recorded_lane.proofs.lane.RecordedLane.move_whole.Goals as goal

pub invariant_of-self : goal.invariant_of-self
invariant_of-self g c =
    let inside = c.self.inside in
    let old : Lane g.row.D.Denot = record { store = inside.store.store; lane = inside.lane; calls = inside.calls } in
    let new = c.move_whole.new.self in
    noted_step old inside.store.deeds c.self.invariant new.store inside.calls new.deeds c.move_whole.ensures.moves.layout refl c.move_whole.ensures.deeds

pub returns-clause-moves : goal.returns-clause-moves
returns-clause-moves g c =
    let d = g.D.PageDevice in
    subst (λ (old : Lane g.row.D.Denot). StoreMoves g.row.PAGE d.honest d.failures d.held (g.P.EvictionPolicy.plan_of c.args.policy.now) old.store c.move_whole.result c.move_whole.new.self.store) c.self.view_is c.move_whole.ensures.moves
