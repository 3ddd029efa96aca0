use Rattle.klog.proofs.TakenLaws.{freeing_keeps}
use Rattle.klog.proofs.laws.freeing_keeps_places.Goals as goal

pub returns : goal.returns
returns c = freeing_keeps
