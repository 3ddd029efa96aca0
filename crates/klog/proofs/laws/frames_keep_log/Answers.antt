use Rattle.klog.proofs.TakenLaws.{frames_keep}
use Rattle.klog.proofs.laws.frames_keep_log.Goals as goal

pub returns : goal.returns
returns c = frames_keep
