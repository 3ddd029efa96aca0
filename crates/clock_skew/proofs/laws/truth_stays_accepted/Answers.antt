use Rattle.clock_skew.proofs.SkewLaws.{stays_accepted}
use Rattle.clock_skew.proofs.laws.truth_stays_accepted.Goals as goal

pub returns : goal.returns
returns c = stays_accepted
