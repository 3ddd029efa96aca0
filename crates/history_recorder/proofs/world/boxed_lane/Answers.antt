-- The lane that was opened, in its box.
use Rattle.std.proofs.Common.{ap, ◌∙◌, sym, subst}
use Rattle.recorded_lane.specs.Lane.{IsRecorded}
use Rattle.history_recorder.specs.Opened.{opening_lane}
use Rattle.history_recorder.proofs.world.boxed_lane.Goals as goal

pub returns-clause-lane : goal.returns-clause-lane
returns-clause-lane g c = c.in_ok-placed.ensures.ok ∙ c.in_ok-lane.ensures ∙ ap (opening_lane c.args.layout.now c.args.number) c.in_ok-boxed.ensures

pub returns-clause-recorded : goal.returns-clause-recorded
returns-clause-recorded g c = subst (IsRecorded g.D.PageDevice.honest g.D.PageDevice.held) (sym c.in_ok-placed.ensures.ok) c.know_recorded.ensures
