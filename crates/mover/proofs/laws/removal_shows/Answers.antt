use Rattle.mover.proofs.public_laws.StepLaws.{removal_law}
use Rattle.mover.proofs.laws.removal_shows.Goals as goal

pub returns : goal.returns
returns c = removal_law
