use Rattle.mover.proofs.public_laws.StepLaws.{begin_law}
use Rattle.mover.proofs.laws.begin_shows.Goals as goal

pub returns : goal.returns
returns c = begin_law
