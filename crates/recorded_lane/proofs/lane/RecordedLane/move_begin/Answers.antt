-- The lane after a move began, or a refusal.
use Rattle.std.proofs.Common.{refl, subst}
use Rattle.mover.specs.Calls.{StoreBegins}
use Rattle.recorded_lane.specs.Lane.{Lane}
use Rattle.recorded_lane.proofs.Noting.{noted_step}
use Rattle.recorded_lane.proofs.lane.RecordedLane.move_begin.Goals as goal

pub invariant_of-self : goal.invariant_of-self
invariant_of-self g c =
    let inside = c.self.inside in
    let old : Lane g.row.D.Denot = record { store = inside.store.store; lane = inside.lane; calls = inside.calls } in
    let new = c.move_begin.new.self in
    noted_step old inside.store.deeds c.self.invariant new.store inside.calls new.deeds c.move_begin.ensures.begins.writes.layout refl c.move_begin.ensures.deeds

pub returns-clause-begins : goal.returns-clause-begins
returns-clause-begins g c =
    let d = g.D.PageDevice in
    subst (λ (old : Lane g.row.D.Denot). StoreBegins g.row.PAGE d.honest d.failures d.held old.store c.move_begin.result c.move_begin.new.self.store) c.self.view_is c.move_begin.ensures.begins
