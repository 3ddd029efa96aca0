-- The sum at the lower place is no more than the point, and the one at the higher place is more.
use Rattle.std.proofs.Common.{◌≤◌, ◌<◌, ◌-◌, length, slice_index}
use Rattle.zipf.proofs.sums.place_of.Given as goal

abbrev pub invariant-loop-high : goal.invariant-loop-high
invariant-loop-high l =
    (l.low < l.high) × (l.high ≤ length l.sums) × (slice_index l.sums l.low ≤ l.point) × (l.high < length l.sums → l.point < slice_index l.sums l.high)

abbrev pub decreases-loop-high : goal.decreases-loop-high
decreases-loop-high l = l.high - l.low
