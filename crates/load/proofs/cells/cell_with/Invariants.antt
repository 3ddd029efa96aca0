use Rattle.std.proofs.Common.{◌-◌, ◌≡◌, ℕ, ◌+◌, ◌*◌, ◌<◌, length, take}
use Rattle.std.specs.List.{sum}
use Rattle.load.proofs.cells.cell_with.Given as goal

abbrev pub invariant-loop-seen : goal.invariant-loop-seen
invariant-loop-seen l = (l.cell < length l.counts) × (l.seen ≡ sum (take (l.cell + 1) l.counts)) × ((cell : ℕ) → cell < l.cell → 1000 * sum (take (cell + 1) l.counts) < l.share)

abbrev pub decreases-loop-seen : goal.decreases-loop-seen
decreases-loop-seen l = length l.counts - l.cell
