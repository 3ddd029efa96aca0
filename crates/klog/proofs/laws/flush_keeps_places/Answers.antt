use Rattle.klog.proofs.TakenLaws.{flush_keeps}
use Rattle.klog.proofs.laws.flush_keeps_places.Goals as goal

pub returns : goal.returns
returns c = flush_keeps
