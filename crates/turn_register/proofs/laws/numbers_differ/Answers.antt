use Rattle.turn_register.proofs.Growing.{differ}
use Rattle.turn_register.proofs.laws.numbers_differ.Goals as goal

pub returns : goal.returns
returns c = differ
