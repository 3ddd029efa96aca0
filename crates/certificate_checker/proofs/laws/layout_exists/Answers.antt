use Rattle.certificate_checker.proofs.public_laws.Layouts.{some_layout}
use Rattle.certificate_checker.proofs.laws.layout_exists.Goals as goal

pub returns : goal.returns
returns c = some_layout
