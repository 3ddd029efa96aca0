use Rattle.kset.proofs.public_laws.MovingLaws.{rewritings_keep}
use Rattle.kset.proofs.laws.rewritings_keep_sets.Goals as goal

pub returns : goal.returns
returns c = rewritings_keep
