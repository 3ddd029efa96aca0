-- The sums so far are those before each rank at so many steps.
use Rattle.std.proofs.Common.{◌*◌, ◌-◌, ◌≡◌, ◌≤◌, length}
use Rattle.zipf.specs.Holding.{AreSums, most_sums}
use Rattle.zipf.specs.Weights.{ahead_of}
use Rattle.zipf.proofs.sums.sums_of.Given as goal

abbrev pub invariant-loop-rank : goal.invariant-loop-rank
invariant-loop-rank l =
    (l.rank ≡ length l.sums.items * l.step) × (l.sum ≡ ahead_of l.rank) × (length l.sums.items ≤ most_sums) × AreSums l.sums.items l.step

abbrev pub decreases-loop-rank : goal.decreases-loop-rank
decreases-loop-rank l = l.ranks - l.rank
