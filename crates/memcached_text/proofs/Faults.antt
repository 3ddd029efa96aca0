-- No fault of flags is told only if none of them has one.
use Rattle.std.proofs.Common.{◌≡◌, ℕ, ◌+◌, ◌||◌, nat_lt, nat_le, true, false, List, [], ◌∷◌, ◌++◌, Option, Some, None, refl, arith, inl, inr}
use Rattle.std.proofs.lemmas.Bool.{cases_Bool}
use Rattle.std.proofs.lemmas.Bool.Decides.{nat_tests}
use Rattle.memcached_text.specs.declared.line_error.LineError.{LineError}
use Rattle.memcached_text.specs.Meta.{weight_of, graver, gravest, fault_after}

no_more : (n : ℕ) → (nat_le 4 0 || nat_lt (1 + n) 0) ≡ false
no_more n = grind (arith, nat_tests)

always : (n : ℕ) → (nat_le 4 (1 + n) || nat_lt 0 (1 + n)) ≡ true
always n = grind (arith, nat_tests)

graver_none : (told fault : Option LineError) → graver told fault ≡ None → (told ≡ None) × (fault ≡ None)
graver_none None None none = (refl, refl)
graver_none None (Some one) none = let never : Some one ≡ None = rw (no_more (weight_of one)) at none in cc
graver_none (Some one) None none = let never : Some one ≡ None = rw (always (weight_of one)) at none in cc
graver_none (Some one) (Some other) none = elim (cases_Bool (nat_le 4 (1 + weight_of one) || nat_lt (1 + weight_of other) (1 + weight_of one))) [
  | inl kept ↦ let never : Some one ≡ None = rw kept at none in cc
  | inr new ↦ let never : Some other ≡ None = rw new at none in cc
]

none_told : (before : List (List ℕ)) (told : Option LineError) (flags : List (List ℕ)) → gravest before told flags ≡ None → told ≡ None
none_told before told [] none = none
none_told before told (flag ∷ rest) none =
    (graver_none told (fault_after before flag) (none_told (before ++ flag ∷ []) (graver told (fault_after before flag)) rest none)).0

-- a flag without a fault, and flags without one after it
pub none_each : (before : List (List ℕ)) (flag : List ℕ) (rest : List (List ℕ)) → gravest before None (flag ∷ rest) ≡ None → (fault_after before flag ≡ None) × (gravest (before ++ flag ∷ []) None rest ≡ None)
none_each before flag rest none =
    let told = none_told (before ++ flag ∷ []) (graver None (fault_after before flag)) rest none in
    let after : gravest (before ++ flag ∷ []) None rest ≡ None = rw told at none in
    ((graver_none None (fault_after before flag) told).1, after)
