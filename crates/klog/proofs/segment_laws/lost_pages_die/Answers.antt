use Rattle.klog.proofs.StepLaws.{lost_pages_die}
use Rattle.klog.proofs.segment_laws.lost_pages_die.Goals as goal

pub returns : goal.returns
returns c = lost_pages_die
