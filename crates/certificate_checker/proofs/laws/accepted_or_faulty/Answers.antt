use Rattle.certificate_checker.proofs.Deciding.{accepted_or_first}
use Rattle.certificate_checker.proofs.laws.accepted_or_faulty.Goals as goal

pub returns : goal.returns
returns c = accepted_or_first
