-- Whether the record is empty.
use Rattle.std.proofs.Common.{◌≡◌, ◌↔◌, [], eqb, subst}
use Rattle.std.specs.Prelude.{IsTrue}
use Rattle.recorded_lane.specs.Lane.{Lane}
use Rattle.recorded_lane.proofs.Points.{none_are}
use Rattle.recorded_lane.proofs.lane.RecordedLane.is_empty.Goals as goal

pub returns : goal.returns
returns g c = subst (λ (l : Lane g.row.D.Denot). IsTrue (eqb c.len.result 0) ↔ (l.calls ≡ [])) c.self.view_is (none_are c.self.inside.calls c.len.result c.len.ensures)
