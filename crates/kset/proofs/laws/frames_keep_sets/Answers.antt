use Rattle.kset.proofs.public_laws.MovingLaws.{frames_keep}
use Rattle.kset.proofs.laws.frames_keep_sets.Goals as goal

pub returns : goal.returns
returns c = frames_keep
