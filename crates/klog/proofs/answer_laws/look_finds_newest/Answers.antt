use Rattle.klog.proofs.AnswersOnSegments.{look_finds_newest}
use Rattle.klog.proofs.answer_laws.look_finds_newest.Goals as goal

pub returns : goal.returns
returns c = look_finds_newest
