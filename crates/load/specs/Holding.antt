-- What a histogram holds of the times that were added.
use Rattle.std.specs.Prelude.{◌≡◌, ℕ, ◌+◌, ◌<◌, ◌≤◌, List, length, take}
use Rattle.std.specs.List.{sum}
use Rattle.load.specs.Cells.{longest, top_of, AreTops}
use Rattle.load.specs.Quantile.{count_within, greatest}

-- how many times a histogram takes at most: 2 to the power 53
abbrev pub most_times : ℕ
most_times = 9007199254740992

-- up to each cell the counts sum to the number of times that are at most its top
abbrev pub Counts : List ℕ → List ℕ → Type 0
Counts counts times = (cell : ℕ) → cell < length counts → sum (take (cell + 1) counts) ≡ count_within (top_of cell) times

-- the fields of a histogram of times
pub record Holds (tops counts : List ℕ) (len most : ℕ) (times : List ℕ) : Type 0 where
  pub tops_are : AreTops tops
  pub cells : length counts ≡ length tops
  pub counted : Counts counts times
  pub len_is : len ≡ length times
  pub few : len ≤ most_times
  pub most_is : most ≡ greatest times
  pub short : most ≤ longest
