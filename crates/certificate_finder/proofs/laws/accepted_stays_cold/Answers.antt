use Rattle.certificate_finder.proofs.ColdLemmas.{stays_cold}
use Rattle.certificate_finder.proofs.laws.accepted_stays_cold.Goals as goal

pub returns : goal.returns
returns c = stays_cold
