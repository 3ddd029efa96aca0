use Rattle.mover.proofs.public_laws.StepLaws.{put_law}
use Rattle.mover.proofs.laws.put_shows.Goals as goal

pub returns : goal.returns
returns c = put_law
