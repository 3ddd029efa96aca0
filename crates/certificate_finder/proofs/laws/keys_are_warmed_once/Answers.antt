use Rattle.certificate_finder.proofs.ColdLemmas.{warmed_once}
use Rattle.certificate_finder.proofs.laws.keys_are_warmed_once.Goals as goal

pub returns : goal.returns
returns c = warmed_once
