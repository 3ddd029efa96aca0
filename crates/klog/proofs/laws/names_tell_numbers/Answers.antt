use Rattle.klog.proofs.RingLaws.{names_tell}
use Rattle.klog.proofs.laws.names_tell_numbers.Goals as goal

pub returns : goal.returns
returns c = names_tell
