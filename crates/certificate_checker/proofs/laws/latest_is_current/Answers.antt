-- The two lemmas on the fold.
use Rattle.certificate_checker.proofs.public_laws.LatestLemmas.{latest_found, latest_is}
use Rattle.certificate_checker.proofs.laws.latest_is_current.Goals as goal

pub returns : goal.returns
returns c = λ deeds key latest. (latest_found key latest deeds, latest_is key latest deeds)
