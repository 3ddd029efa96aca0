-- Laws on the weights before ranks.
use Rattle.std.proofs.Common.{◌≡◌, ℕ, zero, suc, ◌+◌, ◌*◌, ◌/◌, ◌-◌, ◌<◌, ◌≤◌, nat_le, true, false, ap, arith, refl, inl, inr}
use Rattle.std.proofs.lemmas.Bool.{cases_lt}
use Rattle.zipf.specs.Weights.{ahead_of, rank_within}

pub ahead_none : ahead_of 0 ≡ 0
unfolding ahead_of
ahead_none = refl

-- the weights before the next rank are those before a rank and its own
pub ahead_more : (rank : ℕ) → ahead_of (rank + 1) ≡ ahead_of rank + 4294967296 / (rank + 1)
unfolding ahead_of
ahead_more rank = let next : rank + 1 ≡ suc rank = omega arith in ap ahead_of next

-- each weight is that of the first rank at the most
pub ahead_most : (rank : ℕ) → ahead_of rank ≤ rank * 4294967296
unfolding ahead_of
ahead_most zero = omega arith
ahead_most (suc rank) =
    let before = ahead_most rank in
    let own : 4294967296 / (rank + 1) ≤ 4294967296 = omega arith in
    omega (arith, before, own)

le-true : (m n : ℕ) → m ≤ n → nat_le m n ≡ true
le-true m n order = grind (arith, order)

le-false : (m n : ℕ) → n < m → nat_le m n ≡ false
le-false m n less = grind (arith, less)

ahead_add : (rank more : ℕ) → ahead_of rank ≤ ahead_of (rank + more)
ahead_add rank zero = let same : ahead_of (rank + 0) ≡ ahead_of rank = ap ahead_of (omega arith) in omega arith
ahead_add rank (suc more) =
    let before = ahead_add rank more in
    let next = ahead_more (rank + more) in
    let same : ahead_of (rank + suc more) ≡ ahead_of ((rank + more) + 1) = ap ahead_of (omega arith) in
    omega (arith, before, next, same)

-- the weights before a later rank are no less
pub ahead_le : (low high : ℕ) → low ≤ high → ahead_of low ≤ ahead_of high
ahead_le low high order =
    let same : high ≡ low + (high - low) = omega arith in
    let below = ahead_add low (high - low) in
    let equal : ahead_of high ≡ ahead_of (low + (high - low)) = ap ahead_of same in
    omega (arith, below, equal)

-- a rank before which less lies than before another one is the earlier of them
pub ahead_lt : (low high : ℕ) → ahead_of low < ahead_of high → low < high
ahead_lt low high less = elim (cases_lt low high) [
  | inl before ↦ before
  | inr other ↦ let order = ahead_le high low (omega (arith, other)) in absurd (omega (arith, order, less))
]

-- the rank in whose weight a point lies is the last one before which the weights are no more
rank_up_to : (ranks rank point : ℕ) → rank ≤ ranks → ahead_of rank ≤ point → point < ahead_of (rank + 1) → rank ≡ rank_within ranks point
unfolding rank_within
rank_up_to zero rank point less reached before = omega (arith, less)
rank_up_to (suc ranks) rank point less reached before = elim (cases_lt ranks rank) [
  | inl last ↦
      let same : rank ≡ suc ranks = omega (arith, last, less) in
      let equal : ahead_of rank ≡ ahead_of (suc ranks) = ap ahead_of same in
      rw (le-true (ahead_of (suc ranks)) point (omega (arith, equal, reached))) same
  | inr earlier ↦
      let order = ahead_le (rank + 1) (suc ranks) (omega (arith, earlier)) in
      rw (le-false (ahead_of (suc ranks)) point (omega (arith, order, before))) (rank_up_to ranks rank point (omega (arith, earlier)) reached before)
]

pub rank_is : (ranks rank point : ℕ) → rank < ranks → ahead_of rank ≤ point → point < ahead_of (rank + 1) → rank ≡ rank_within ranks point
rank_is ranks rank point less reached before = rank_up_to ranks rank point (omega (arith, less)) reached before
