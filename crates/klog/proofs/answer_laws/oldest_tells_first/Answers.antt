use Rattle.klog.proofs.OldestOnSegments.{oldest_tells_first}
use Rattle.klog.proofs.answer_laws.oldest_tells_first.Goals as goal

pub returns : goal.returns
returns c = oldest_tells_first
