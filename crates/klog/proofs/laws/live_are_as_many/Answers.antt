use Rattle.klog.proofs.TakenLaws.{as_many}
use Rattle.klog.proofs.laws.live_are_as_many.Goals as goal

pub returns : goal.returns
returns c = as_many
