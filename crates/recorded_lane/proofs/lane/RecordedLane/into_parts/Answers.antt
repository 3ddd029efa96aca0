-- The calls of a lane, accepted in turn.
use Rattle.std.proofs.Common.{length, subst}
use Rattle.std.specs.Prelude.{IsTrue}
use Rattle.std.specs.List.{range_with_len}
use Rattle.certificate_checker.specs.Acceptance.{IsAccepted}
use Rattle.recorded_lane.specs.Lane.{Lane}
use Rattle.recorded_lane.proofs.InTurn.{recorded_accepted}
use Rattle.recorded_lane.proofs.Noting.{recorded}
use Rattle.recorded_lane.proofs.lane.RecordedLane.into_parts.Goals as goal

pub returns-clause-accepted : goal.returns-clause-accepted
returns-clause-accepted g c =
    let d = g.D.PageDevice in
    let lane : Lane g.row.D.Denot = record { store = c.self.inside.store.store; lane = c.self.inside.lane; calls = c.self.inside.calls } in
    subst (λ (l : Lane g.row.D.Denot). IsTrue (d.honest l.store.device) → IsAccepted c.into_history.result (range_with_len 0 (length l.calls))) c.self.view_is (recorded_accepted d.honest d.held lane (recorded lane c.self.inside.store.deeds c.self.invariant d.honest d.held c.layout-layout.ensures.served) c.into_history.result c.into_history.ensures)
