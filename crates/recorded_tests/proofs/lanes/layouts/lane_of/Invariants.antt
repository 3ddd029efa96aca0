use Rattle.std.proofs.Common.{◌≡◌, length}
use Rattle.recorded_tests.proofs.Rising.{RisesTo}
use Rattle.recorded_tests.proofs.lanes.layouts.lane_of.Given as goal

abbrev pub invariant-loop-put : goal.invariant-loop-put
invariant-loop-put l = RisesTo l.lane l.last × (length l.lane ≡ l.put-index)
