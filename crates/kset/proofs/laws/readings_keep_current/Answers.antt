use Rattle.kset.proofs.public_laws.MovingLaws.{readings_keep_now}
use Rattle.kset.proofs.laws.readings_keep_current.Goals as goal

pub returns : goal.returns
returns c = readings_keep_now
