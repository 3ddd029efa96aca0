-- As many as were asked.
use Rattle.std.proofs.Common.{◌≡◌, length}
use Rattle.serve_load.proofs.lane_end.lane_ends.Given as goal

abbrev pub invariant-loop-lane : goal.invariant-loop-lane
invariant-loop-lane g l = length l.ends.items ≡ l.lane
