use Rattle.klog.proofs.AnswersOnSegments.{count_tells_live}
use Rattle.klog.proofs.answer_laws.count_tells_live.Goals as goal

pub returns : goal.returns
returns c = count_tells_live
