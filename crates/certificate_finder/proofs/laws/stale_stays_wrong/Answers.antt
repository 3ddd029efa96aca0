use Rattle.certificate_finder.proofs.ColdLemmas.{stays_wrong}
use Rattle.certificate_finder.proofs.laws.stale_stays_wrong.Goals as goal

pub returns : goal.returns
returns c = stays_wrong
