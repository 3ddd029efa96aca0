use Rattle.turn_register.proofs.Coming.{comes_to_be_seen}
use Rattle.turn_register.proofs.laws.flush_to_come_is_seen.Goals as goal

pub returns : goal.returns
returns c = comes_to_be_seen
