use Rattle.klog.proofs.TakenLaws.{list_keeps}
use Rattle.klog.proofs.laws.list_keeps_places.Goals as goal

pub returns : goal.returns
returns c = list_keeps
