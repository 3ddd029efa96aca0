use Rattle.mover.proofs.public_laws.StepLaws.{put_back_law}
use Rattle.mover.proofs.laws.put_back_shows.Goals as goal

pub returns : goal.returns
returns c = put_back_law
