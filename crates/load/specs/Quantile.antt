-- Which time is a quantile of times.
use Rattle.std.specs.Prelude.{ℕ, ◌*◌, ◌<◌, ◌≤◌, nat_le, List, [], ◌∷◌, length, max}
use Rattle.std.specs.List.{count_by}
use Rattle.load.specs.Cells.{top_of}

-- how many times are at most a bound
abbrev pub count_within : ℕ → List ℕ → ℕ
count_within bound times = count_by (λ time. nat_le time bound) times

-- the greatest of times, and 0 of none
abbrev pub greatest : List ℕ → ℕ
greatest [] = 0
greatest (time ∷ times) = max time (greatest times)

-- Of this many thousandths of the times none is above the result. At each top below the result they are fewer. The result is
-- not above the greatest time either.
pub record IsQuantile (times : List ℕ) (thousandths : ℕ) (result : ℕ) : Type 0 where
  pub enough : thousandths * length times ≤ 1000 * count_within result times
  pub least : (cell : ℕ) → top_of cell < result → 1000 * count_within (top_of cell) times < thousandths * length times
  pub within : result ≤ greatest times
