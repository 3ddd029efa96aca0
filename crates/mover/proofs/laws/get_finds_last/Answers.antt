use Rattle.mover.proofs.AnswerLaw as law
use Rattle.mover.proofs.laws.get_finds_last.Goals as goal

pub returns : goal.returns
returns c = law.get_finds_last c.look_finds_newest.ensures
