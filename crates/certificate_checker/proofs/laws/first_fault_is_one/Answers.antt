use Rattle.certificate_checker.proofs.Deciding.{one_first_fault}
use Rattle.certificate_checker.proofs.laws.first_fault_is_one.Goals as goal

pub returns : goal.returns
returns c = one_first_fault
