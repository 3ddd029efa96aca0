-- What a table of ranks holds.
use Rattle.std.specs.Prelude.{◌≡◌, ℕ, ◌*◌, ◌<◌, ◌≤◌, List, length, slice_index}
use Rattle.zipf.specs.Weights.{ahead_of}

-- how many ranks there may be
abbrev pub most_ranks : ℕ
most_ranks = 100000000

-- how many sums a table has at the most
abbrev pub most_sums : ℕ
most_sums = 1048576

-- at each place stand the weights before a rank, of each rank at so many steps
abbrev pub AreSums : List ℕ → ℕ → Type 0
AreSums sums step = (place : ℕ) → place < length sums → slice_index sums place ≡ ahead_of (place * step)

-- a table of so many ranks has the weights before some of them, with the first, and those of all
pub record HoldsRanks (sums : List ℕ) (step total ranks : ℕ) : Type 0 where
  pub some : 0 < length sums
  pub few : length sums ≤ most_sums
  pub sums_are : AreSums sums step
  pub total_is : total ≡ ahead_of ranks
  pub some_ranks : 1 ≤ ranks
  pub few_ranks : ranks ≤ most_ranks
  pub short_steps : step ≤ 96
