use Rattle.klog.proofs.StepLaws.{sealing_flushes}
use Rattle.klog.proofs.segment_laws.sealing_flushes.Goals as goal

pub returns : goal.returns
returns c = sealing_flushes
