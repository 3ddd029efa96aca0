use Rattle.klog.proofs.TakenLaws.{append_keeps}
use Rattle.klog.proofs.laws.append_keeps_places.Goals as goal

pub returns : goal.returns
returns c = append_keeps
