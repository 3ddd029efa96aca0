use Rattle.mover.proofs.public_laws.WholeLaws.{whole_move_law}
use Rattle.mover.proofs.laws.whole_move_shows.Goals as goal

pub returns : goal.returns
returns c = whole_move_law
