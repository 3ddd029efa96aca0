use Rattle.certificate_checker.proofs.public_laws.Layouts.{one_layout}
use Rattle.certificate_checker.proofs.laws.layout_is_one.Goals as goal

pub returns : goal.returns
returns c = λ lanes history one other rise. one_layout lanes history rise one other
