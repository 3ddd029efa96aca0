-- The weights before the rank are no more than the point, and with its own they are those after it.
use Rattle.std.proofs.Common.{◌+◌, ◌-◌, ◌≡◌, ◌≤◌, ◌<◌}
use Rattle.zipf.specs.Weights.{ahead_of}
use Rattle.zipf.proofs.sums.rank_from.Given as goal

abbrev pub invariant-loop-after : goal.invariant-loop-after
invariant-loop-after l = (l.rank < l.ranks) × (ahead_of l.rank ≤ l.point) × (l.after ≡ ahead_of (l.rank + 1))

abbrev pub decreases-loop-after : goal.decreases-loop-after
decreases-loop-after l = l.ranks - l.rank
