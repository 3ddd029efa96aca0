use Rattle.recorded_lane.proofs.Kept.{kept_without}
use Rattle.recorded_lane.proofs.call_record.CallRecord.drop_last.Goals as goal

pub returns : goal.returns
returns c = kept_without c.self.inside.history c.drop_last.new.self c.args.self.now c.self.view_is c.drop_last.ensures
