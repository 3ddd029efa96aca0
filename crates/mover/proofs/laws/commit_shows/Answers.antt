use Rattle.mover.proofs.public_laws.StepLaws.{commit_law}
use Rattle.mover.proofs.laws.commit_shows.Goals as goal

pub returns : goal.returns
returns c = commit_law
