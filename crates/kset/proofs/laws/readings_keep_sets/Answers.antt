use Rattle.kset.proofs.public_laws.MovingLaws.{readings_keep}
use Rattle.kset.proofs.laws.readings_keep_sets.Goals as goal

pub returns : goal.returns
returns c = readings_keep
