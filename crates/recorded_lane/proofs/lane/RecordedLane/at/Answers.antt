-- The call of the record.
use Rattle.std.proofs.Common.{◌≡◌, ◌<◌, length, Some, sym, subst}
use Rattle.std.specs.Prelude.{slice_get}
use Rattle.recorded_lane.specs.Lane.{Lane}
use Rattle.recorded_lane.specs.Points.{noted_shown}
use Rattle.recorded_lane.proofs.lane.RecordedLane.at.Goals as goal

pub at-requires : goal.at-requires
at-requires g c = subst (λ (l : Lane g.row.D.Denot). c.args.position < length l.calls) (sym c.self.view_is) c.requires

pub returns : goal.returns
returns g c = record {
  call = subst (λ (l : Lane g.row.D.Denot). slice_get l.calls c.args.position ≡ Some (noted_shown c.at.result)) c.self.view_is c.at.ensures.call;
  key = c.at.ensures.key;
  value = c.at.ensures.value;
}
