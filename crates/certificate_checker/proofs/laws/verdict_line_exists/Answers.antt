use Rattle.certificate_checker.proofs.public_laws.Judging.{some_verdict_line}
use Rattle.certificate_checker.proofs.laws.verdict_line_exists.Goals as goal

pub returns : goal.returns
returns c = some_verdict_line
