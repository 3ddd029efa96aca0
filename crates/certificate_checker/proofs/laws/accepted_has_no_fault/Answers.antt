use Rattle.certificate_checker.proofs.public_laws.Accepting.{no_fault}
use Rattle.certificate_checker.proofs.laws.accepted_has_no_fault.Goals as goal

pub returns : goal.returns
returns c = λ history certificate fault accepted first. no_fault history certificate accepted fault first.found
