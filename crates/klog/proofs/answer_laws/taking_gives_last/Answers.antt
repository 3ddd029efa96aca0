use Rattle.klog.proofs.AnswersOnSegments.{taking_gives_last}
use Rattle.klog.proofs.answer_laws.taking_gives_last.Goals as goal

pub returns : goal.returns
returns c = taking_gives_last
