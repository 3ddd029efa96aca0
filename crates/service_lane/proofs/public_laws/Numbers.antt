-- The numbers of counters, by their places.
use Rattle.std.proofs.Common.{◌≡◌, ◌≢◌, ℕ, ◌+◌, ◌<◌, ◌%◌, ◌^◌, List, length, get_or, set, ap, refl, sym, ◌∙◌, subst, arith, cond, eqb, inl, inr}
use Rattle.std.proofs.lemmas.Bool.Decides.{eqb_tells}
use Rattle.std.proofs.lemmas.List.{get_or-set_same, get_or-set_other, length-set}
use Rattle.std.proofs.lemmas.List.FromFn.{fill_by_all, get_or-map-range_with_len}
use Rattle.service_lane.specs.declared.counter.Counter.{Counter}
use Rattle.service_lane.specs.declared.counts.Counts.{Counts}
use Rattle.service_lane.specs.declared.counts.TheConstants.{COUNTERS}
use Rattle.service_lane.specs.Counters.{counts_by, place_of, number, number_at, with_more}

-- each counter has a place
pub placed : (c : Counter) → place_of c < COUNTERS
placed c = grind arith

-- counts whose numbers are these
pub counts_are : (f : ℕ → ℕ) (xs : List ℕ) → length xs ≡ COUNTERS → ((place : ℕ) → place < COUNTERS → get_or xs place 0 ≡ f place) → record { numbers = xs } ≡ counts_by f
unfolding counts_by
counts_are f xs long at = ap (λ (numbers : List ℕ). record { numbers = numbers }) (fill_by_all f xs COUNTERS 0 long at)

-- the number of a counter among these
pub number_by : (f : ℕ → ℕ) (c : Counter) → number c (counts_by f) ≡ f (place_of c)
unfolding counts_by
number_by f c = get_or-map-range_with_len f 0 COUNTERS (place_of c) (place_of c) 0 (placed c) (omega arith)

-- the number at a place after so many more of a counter
abbrev more_of : ℕ → ℕ → Counts → ℕ → ℕ
more_of n at counts place = cond (eqb place at) ((number_at counts place + n) % 2 ^ 64) (number_at counts place)

-- one number is so many more
pub more_there : (c : Counter) (n : ℕ) (counts : Counts) → length counts.numbers ≡ COUNTERS → record { numbers = set counts.numbers (place_of c) ((number c counts + n) % 2 ^ 64) } ≡ with_more n c counts
unfolding with_more
more_there c n counts long =
    let xs = counts.numbers in
    let p = place_of c in
    let sum = (number_at counts p + n) % 2 ^ 64 in
    counts_are (more_of n p counts) (set xs p sum) (length-set xs p sum ∙ long) (λ place less.
    elim (eqb_tells place p) [
      | inl same ↦
          ap (λ k. get_or (set xs p sum) k 0) same.1 ∙ get_or-set_same xs p sum 0 (subst (λ k. p < k) (sym long) (placed c))
          ∙ sym (ap (λ b. cond b ((number_at counts place + n) % 2 ^ 64) (number_at counts place)) same.0 ∙ ap (λ k. (number_at counts k + n) % 2 ^ 64) same.1)
      | inr other ↦ get_or-set_other xs p place sum 0 other.1 ∙ sym (ap (λ b. cond b ((number_at counts place + n) % 2 ^ 64) (number_at counts place)) other.0)
    ])

-- so many more of a counter
pub more_same : (n : ℕ) (c : Counter) (counts : Counts) → number c (with_more n c counts) ≡ (number c counts + n) % 2 ^ 64
unfolding with_more
more_same n c counts =
    let p = place_of c in
    elim (eqb_tells p p) [
      | inl same ↦ number_by (more_of n p counts) c ∙ ap (λ b. cond b ((number_at counts p + n) % 2 ^ 64) (number_at counts p)) same.0
      | inr other ↦ absurd (other.1 refl)
    ]

-- and each other number stays
pub more_other : (n : ℕ) (c other : Counter) (counts : Counts) → place_of other ≢ place_of c → number other (with_more n c counts) ≡ number other counts
unfolding with_more
more_other n c d counts differ =
    let p = place_of d in
    elim (eqb_tells p (place_of c)) [
      | inl same ↦ absurd (differ same.1)
      | inr other ↦ number_by (more_of n (place_of c) counts) d ∙ ap (λ b. cond b ((number_at counts p + n) % 2 ^ 64) (number_at counts p)) other.0
    ]
