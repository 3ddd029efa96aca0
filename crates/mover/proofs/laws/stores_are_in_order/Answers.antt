use Rattle.mover.proofs.public_laws.WholeLaws.{stores_law}
use Rattle.mover.proofs.laws.stores_are_in_order.Goals as goal

pub returns : goal.returns
returns c = stores_law
