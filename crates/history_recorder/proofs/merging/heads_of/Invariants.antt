use Rattle.history_recorder.proofs.Starts.{StartsBelow}
use Rattle.history_recorder.proofs.merging.heads_of.Given as goal

abbrev pub invariant-loop-lane : goal.invariant-loop-lane
invariant-loop-lane l = StartsBelow l.lanes l.heads.items l.lane-index l.first
