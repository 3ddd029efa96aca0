use Rattle.mover.proofs.public_laws.StepLaws.{get_law}
use Rattle.mover.proofs.laws.get_shows.Goals as goal

pub returns : goal.returns
returns c = get_law
