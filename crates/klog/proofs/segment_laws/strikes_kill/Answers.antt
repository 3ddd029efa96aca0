use Rattle.klog.proofs.StepLaws.{strikes_kill}
use Rattle.klog.proofs.segment_laws.strikes_kill.Goals as goal

pub returns : goal.returns
returns c = strikes_kill
