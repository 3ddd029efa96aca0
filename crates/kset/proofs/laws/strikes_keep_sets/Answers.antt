use Rattle.kset.proofs.public_laws.MovingLaws.{strikes_keep}
use Rattle.kset.proofs.laws.strikes_keep_sets.Goals as goal

pub returns : goal.returns
returns c = strikes_keep
