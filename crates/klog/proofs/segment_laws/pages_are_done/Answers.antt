use Rattle.klog.proofs.StepLaws.{pages_are_done}
use Rattle.klog.proofs.segment_laws.pages_are_done.Goals as goal

pub returns : goal.returns
returns c = pages_are_done
