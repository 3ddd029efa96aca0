use Rattle.klog.proofs.StepLaws.{freeing_takes}
use Rattle.klog.proofs.segment_laws.freeing_takes_oldest.Goals as goal

pub returns : goal.returns
returns c = freeing_takes
