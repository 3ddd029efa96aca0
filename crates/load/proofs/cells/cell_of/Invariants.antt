use Rattle.std.proofs.Common.{◌-◌, ℕ, ◌<◌, ◌≤◌, length}
use Rattle.load.specs.Cells.{top_of}
use Rattle.load.proofs.cells.cell_of.Given as goal

abbrev pub invariant-loop-low : goal.invariant-loop-low
invariant-loop-low l = (l.low ≤ l.high) × (l.high < length l.tops) × (l.time ≤ top_of l.high) × ((cell : ℕ) → cell < l.low → top_of cell < l.time)

abbrev pub decreases-loop-low : goal.decreases-loop-low
decreases-loop-low l = l.high - l.low
