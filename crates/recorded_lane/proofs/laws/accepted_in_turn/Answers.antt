use Rattle.recorded_lane.proofs.InTurn.{accepted_in_turn}
use Rattle.recorded_lane.proofs.laws.accepted_in_turn.Goals as goal

pub returns : goal.returns
returns c = accepted_in_turn
