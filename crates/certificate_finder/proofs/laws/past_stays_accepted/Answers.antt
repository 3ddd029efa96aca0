use Rattle.certificate_finder.proofs.PastLemmas.{past_accepted}
use Rattle.certificate_finder.proofs.laws.past_stays_accepted.Goals as goal

pub returns : goal.returns
returns c = λ past history certificate warm new a is. past_accepted past history certificate new a warm is
