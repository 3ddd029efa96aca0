use Rattle.certificate_checker.proofs.public_laws.LaneLemmas.{lanes_accepted}
use Rattle.certificate_checker.proofs.laws.lanes_are_accepted.Goals as goal

pub returns : goal.returns
returns c = λ lanes history certificate sound apart laid. lanes_accepted lanes sound apart history certificate laid
