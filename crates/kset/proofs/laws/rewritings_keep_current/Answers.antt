use Rattle.kset.proofs.public_laws.MovingLaws.{rewritings_keep_now}
use Rattle.kset.proofs.laws.rewritings_keep_current.Goals as goal

pub returns : goal.returns
returns c = rewritings_keep_now
