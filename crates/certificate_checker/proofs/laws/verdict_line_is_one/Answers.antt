use Rattle.certificate_checker.proofs.public_laws.Judging.{one_verdict_line}
use Rattle.certificate_checker.proofs.laws.verdict_line_is_one.Goals as goal

pub returns : goal.returns
returns c = one_verdict_line
