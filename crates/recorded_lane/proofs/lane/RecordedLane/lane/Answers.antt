-- The lane's number, by its parts.
use Rattle.std.proofs.Common.{◌<◌, ap, subst}
use Rattle.recorded_lane.specs.Lane.{Lane}
use Rattle.recorded_lane.proofs.lane.RecordedLane.lane.Goals as goal

pub returns : goal.returns
returns g c = record {
  number = ap (λ (l : Lane g.row.D.Denot). l.lane) c.self.view_is;
  below = subst (λ (l : Lane g.row.D.Denot). c.self.inside.lane < l.store.layout.lanes) c.self.view_is c.self.invariant.number;
}
