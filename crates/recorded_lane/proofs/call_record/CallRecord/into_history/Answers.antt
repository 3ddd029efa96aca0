use Rattle.recorded_lane.proofs.Kept.{kept_are}
use Rattle.recorded_lane.proofs.call_record.CallRecord.into_history.Goals as goal

pub returns : goal.returns
returns c = kept_are c.self.inside.history c.args.self c.self.view_is
