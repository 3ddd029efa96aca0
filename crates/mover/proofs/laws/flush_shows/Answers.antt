use Rattle.mover.proofs.public_laws.StepLaws.{flush_law}
use Rattle.mover.proofs.laws.flush_shows.Goals as goal

pub returns : goal.returns
returns c = flush_law
