use Rattle.kset.proofs.public_laws.ShownLaws.{shown-forgotten}
use Rattle.kset.proofs.laws.forgotten_show_nothing.Goals as goal

pub returns : goal.returns
returns c = shown-forgotten
