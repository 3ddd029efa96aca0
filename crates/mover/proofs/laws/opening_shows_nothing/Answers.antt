use Rattle.mover.proofs.public_laws.WholeLaws.{opening_law}
use Rattle.mover.proofs.laws.opening_shows_nothing.Goals as goal

pub returns : goal.returns
returns c = opening_law
