-- The cells of a histogram: each has a top, the greatest time that it counts.
use Rattle.std.specs.Prelude.{◌≡◌, ℕ, ◌+◌, ◌-◌, ◌/◌, ◌<◌, zero, suc, List, length, slice_index, min, max}

-- the greatest time that is told apart, in nanoseconds: about 18 minutes
abbrev pub longest : ℕ
longest = 1099511627776

-- the top after a top: a thirty-second part more, and one more at least, up to the longest time
abbrev pub next_top : ℕ → ℕ
next_top top = min longest (top + max 1 (top / 32))

-- the top of a cell, of which the first one has the number 0
unfoldable pub top_of : ℕ → ℕ
top_of zero = 1
top_of (suc cell) = next_top (top_of cell)

-- a list has the tops of the cells in order, up to the longest time, which is there once
pub record AreTops (tops : List ℕ) : Type 0 where
  pub some : 0 < length tops
  pub each : (cell : ℕ) → cell < length tops → slice_index tops cell ≡ top_of cell
  pub ends : top_of (length tops - 1) ≡ longest
  pub below : (cell : ℕ) → cell + 1 < length tops → top_of cell < longest
