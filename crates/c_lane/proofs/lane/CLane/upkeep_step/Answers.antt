-- The lane did a step, and told it.
use Rattle.std.proofs.Common.{subst}
use Rattle.c_lane.specs.Lane.{LaneState, laws_of}
use Rattle.c_lane.specs.Tending.{Tends}
use Rattle.c_lane.proofs.Tending.{tends}
use Rattle.c_lane.proofs.lane.CLane.upkeep_step.Goals as goal

pub returns : goal.returns
returns g c =
    let d = g.D.PageDevice in
    let laws = laws_of d.honest d.failures d.held in
    let i = c.self.inside in
    let old : LaneState g.row.D.Denot = record { serving = i.lane; words = i.words } in
    let new : LaneState g.row.D.Denot = record { serving = c.upkeep_step.new.self; words = i.words } in
    let step = c.upkeep_step.result in
    let said = c.upkeep_step.ensures in
    subst (λ (s : LaneState g.row.D.Denot). Tends laws s c.of.result new) c.self.view_is
    (tends laws old c.upkeep_step.new.self step.did step.asked_device step.is_due c.of.result said.upkept said.asked said.unasked said.due c.of.ensures)
