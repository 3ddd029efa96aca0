use Rattle.turn_register.proofs.Growing.{is_seen}
use Rattle.turn_register.proofs.laws.flush_is_seen.Goals as goal

pub returns : goal.returns
returns c = is_seen
