use Rattle.klog.proofs.ListedLaws.{tells_live}
use Rattle.klog.proofs.segment_laws.segments_tell_live.Goals as goal

pub returns : goal.returns
returns c = tells_live
