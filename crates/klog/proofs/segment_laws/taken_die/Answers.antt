use Rattle.klog.proofs.StepLaws.{taken_die}
use Rattle.klog.proofs.segment_laws.taken_die.Goals as goal

pub returns : goal.returns
returns c = taken_die
