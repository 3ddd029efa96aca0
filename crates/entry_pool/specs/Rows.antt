-- A pool as the list of its rows.
use Rattle.std.specs.Prelude.{◌≡◌, ℕ, ◌==◌, not, cond, if◌then◌else◌, Option, MatchOption, List, [], ◌∷◌, filter, map}
use Rattle.entry_pool.specs.Linked.{with_prediction}
use Rattle.entry_pool.specs.declared.pool_item.PoolItem.{PoolItem}
use Rattle.entry_pool.specs.declared.row.Row.{Row}
use Rattle.entry_pool.specs.Chains.{none, IsIn}

-- a pool: the sets that its rows may belong to, the most rows that it may have, and its rows, newest first
pub record Rows : Type 0 where
  pub sets : ℕ
  pub limit : ℕ
  pub rows : List Row

-- a pool with other rows
abbrev pub with_rows : Rows → List Row → Rows
with_rows pool rows = record { sets = pool.sets; limit = pool.limit; rows = rows }

-- the numbers of rows
abbrev pub numbers : List Row → List ℕ
numbers rows = map (λ r. r.at) rows

-- the rows of a set
abbrev pub in_set : ℕ → List Row → List Row
in_set set rows = filter (λ r. r.item.set == set) rows

-- the rows without the one of this number
abbrev pub without_at : ℕ → List Row → List Row
without_at at rows = filter (λ r. not (r.at == at)) rows

-- of rows after the one numbered p, those that are after the one numbered q
abbrev pub rows_after : ℕ → ℕ → List Row → List Row
rows_after q p [] = []
rows_after q p (r ∷ rs) = cond (q == p) (r ∷ rs) (rows_after q r.at rs)

-- a row is held under this number
abbrev pub IsHeld : ℕ → List Row → Type 0
IsHeld at rows = IsIn at (numbers rows)

-- the number of a row, or the one that stands for the place before the first
abbrev pub IsMark : ℕ → List Row → Type 0
IsMark at rows = IsIn at (none ∷ numbers rows)

-- the rows of nodes, by what each notes
abbrev pub rows_of : (ℕ → PoolItem) → List ℕ → List Row
rows_of item ages = map (λ i. record { at = i; item = item i }) ages

-- a row with another prediction
abbrev pub repredicted : ℕ → Row → Row
repredicted prediction r = record r { item = with_prediction prediction r.item }

-- the rows if the one of this number has another prediction
abbrev pub with_prediction_at : ℕ → ℕ → List Row → List Row
with_prediction_at at prediction rows = map (λ r. if r.at == at then repredicted prediction r else r) rows

-- what comes next after a mark, or that nothing does
abbrev pub IsNext : ℕ → List Row → Option Row → Type 0
IsNext at rows found =
    MatchOption found (rows_after at none rows ≡ []) (λ r. (rows_after at none rows ≡ r ∷ rows_after r.at none rows) × IsMark r.at rows)
