-- Laws on how many times are at most a bound.
use Rattle.std.proofs.Common.{◌≡◌, Bool, ℕ, ◌+◌, ◌<◌, ◌≤◌, List, [], ◌∷◌, ◌++◌, length, cond, max, ap, arith, refl}
use Rattle.std.proofs.lemmas.Bool.{le-leb, lt-leb}
use Rattle.std.proofs.lemmas.List.Sums.{sum_by-append}
use Rattle.load.specs.Quantile.{count_within, greatest}

-- the greatest of two lists
pub greatest-append : (times more : List ℕ) → greatest (times ++ more) ≡ max (greatest times) (greatest more)
greatest-append [] more = omega arith
greatest-append (time ∷ times) more = let rest = greatest-append times more in omega arith

-- two lists count together
pub count-append : (bound : ℕ) (times more : List ℕ) → count_within bound (times ++ more) ≡ count_within bound times + count_within bound more
count-append bound times more = sum_by-append _ times more

one_within : (time bound : ℕ) → time ≤ bound → count_within bound (time ∷ []) ≡ 1
one_within time bound order = let f : Bool → ℕ = λ b. 0 + cond b 1 0 in ap f (le-leb time bound order)

one_above : (time bound : ℕ) → bound < time → count_within bound (time ∷ []) ≡ 0
one_above time bound order = let f : Bool → ℕ = λ b. 0 + cond b 1 0 in ap f (lt-leb time bound order)

-- a time within the bound counts
pub count-within : (bound time : ℕ) (times : List ℕ) → time ≤ bound → count_within bound (times ++ time ∷ []) ≡ count_within bound times + 1
count-within bound time times order = omega (arith, count-append bound times (time ∷ []), one_within time bound order)

-- a time above the bound does not
pub count-above : (bound time : ℕ) (times : List ℕ) → bound < time → count_within bound (times ++ time ∷ []) ≡ count_within bound times
count-above bound time times order = omega (arith, count-append bound times (time ∷ []), one_above time bound order)

-- all times are within the greatest one
pub count-all : (bound : ℕ) (times : List ℕ) → greatest times ≤ bound → count_within bound times ≡ length times
count-all bound [] short = refl
count-all bound (time ∷ times) short =
    let rest = count-all bound times (omega arith) in
    let first = count-append bound (time ∷ []) times in
    omega (arith, one_within time bound (omega arith))
