use Rattle.std.proofs.Common.{◌≡◌, ◌++◌, Ok, length, map}
use Rattle.shared_cache.proofs.ending.all_settled.Given as goal

abbrev pub invariant-loop-of_lane : goal.invariant-loop-of_lane
invariant-loop-of_lane l = map Ok l.lanes.items ++ l.left.items ≡ l.fn.settled.items

abbrev pub decreases-loop-of_lane : goal.decreases-loop-of_lane
decreases-loop-of_lane l = length l.left.items
