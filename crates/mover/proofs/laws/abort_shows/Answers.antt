use Rattle.mover.proofs.public_laws.StepLaws.{abort_law}
use Rattle.mover.proofs.laws.abort_shows.Goals as goal

pub returns : goal.returns
returns c = abort_law
