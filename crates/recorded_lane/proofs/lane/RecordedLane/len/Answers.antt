-- What is true of the lane, by its store.
use Rattle.std.proofs.Common.{length, ap, ◌∙◌, subst}
use Rattle.recorded_lane.specs.Lane.{Lane, IsRecorded}
use Rattle.recorded_lane.proofs.Noting.{recorded}
use Rattle.recorded_lane.proofs.lane.RecordedLane.len.Goals as goal

pub returns-clause-count : goal.returns-clause-count
returns-clause-count g c = c.len.ensures ∙ ap (λ (l : Lane g.row.D.Denot). length l.calls) c.self.view_is

pub returns-clause-recorded : goal.returns-clause-recorded
returns-clause-recorded g c =
    let d = g.D.PageDevice in
    let inside = c.self.inside in
    let old : Lane g.row.D.Denot = record { store = inside.store.store; lane = inside.lane; calls = inside.calls } in
    subst (IsRecorded d.honest d.held) c.self.view_is (recorded old inside.store.deeds c.self.invariant d.honest d.held c.layout-layout.ensures.served)
