use Rattle.kset.proofs.public_laws.MovingLaws.{strikes_keep_now}
use Rattle.kset.proofs.laws.strikes_keep_current.Goals as goal

pub returns : goal.returns
returns c = strikes_keep_now
