-- What is among the numbers that pass a test.
use Rattle.std.proofs.Common.{◌≡◌, ℕ, zero, suc, ◌+◌, Bool, true, false, ◌&&◌, ◌||◌, eqb, ltb, refl, sym, ap, ◌∙◌, ⊎_elim, arith}
use Rattle.std.proofs.lemmas.Bool.{cases_eq, cond_both, le-ltb, false≢true}
use Rattle.std.proofs.lemmas.Bool.Decides.{nat_tests}
use Rattle.std.specs.Ordering.{nat_cmp}
use Rattle.std.specs.Cmp.{nat_cmp_total, unsigned_tied}
use Rattle.std.specs.FinSet.{FinSet, contains, insert, contains-empty, contains-insert, same_set, nat_cmp-IsAntisymmetric}
use Rattle.record_pages.specs.Passing.{passing_below}

-- what is among a set of numbers and one more
pub contains-insert_nat : (s : FinSet nat_cmp) (k q : ℕ) → contains (insert s k) q ≡ (eqb q k || contains s q)
contains-insert_nat s k q = contains-insert nat_cmp_total s k q ∙ ap (λ b. b || contains s q) (unsigned_tied q k)

-- sets of numbers with the same members are one
pub same_numbers : (s t : FinSet nat_cmp) → ((q : ℕ) → contains s q ≡ contains t q) → s ≡ t
same_numbers = same_set nat_cmp_total nat_cmp-IsAntisymmetric

-- one number more, which passes
passes : (a b : Bool) (n m q : ℕ) (before : Bool) → m ≡ n + 1 → (q ≡ n → a ≡ b) → before ≡ (ltb q n && b) → a ≡ true → (eqb q n || before) ≡ (ltb q m && b)
passes a b n m q before next same is yes_it_does = ⊎_elim (λ e. grind (arith, nat_tests, same e)) (λ ne. grind (arith, nat_tests)) (cases_eq q n)

-- one number more, which does not pass
passes_not : (a b : Bool) (n m q : ℕ) (before : Bool) → m ≡ n + 1 → (q ≡ n → a ≡ b) → before ≡ (ltb q n && b) → a ≡ false → before ≡ (ltb q m && b)
passes_not a b n m q before next same is no_it_does = ⊎_elim (λ e. grind (arith, nat_tests, same e)) (λ ne. grind (arith, nat_tests)) (cases_eq q n)

-- what is among the numbers below n that pass
pub contains-passing_below : (test : ℕ → Bool) (n q : ℕ) → contains (passing_below test n) q ≡ (ltb q n && test q)
contains-passing_below test zero q = contains-empty nat_cmp q ∙ ap (λ b. b && test q) (sym (le-ltb q zero (omega arith)))
contains-passing_below test (suc n) q =
    let before = contains-passing_below test n q in
    let same : q ≡ n → test n ≡ test q = λ e. ap test (sym e) in
    let P : FinSet nat_cmp → Type 0 = λ s. contains s q ≡ (ltb q (suc n) && test q) in
    cond_both (test n) (insert (passing_below test n) n) (passing_below test n) P
    (λ t. contains-insert_nat (passing_below test n) n q ∙ passes _ _ n (suc n) q _ (omega arith) same before t)
    (λ f. passes_not _ _ n (suc n) q _ (omega arith) same before f)

-- a member that joins a set of numbers below a bound, itself below it
pub joins : (below same has joined : Bool) → (same ≡ true → below ≡ true) → joined ≡ (same || has) → (below && joined) ≡ (same || (below && has))
joins true true has joined within is = is
joins true false has joined within is = is
joins false true has joined within is = absurd (false≢true (within refl))
joins false false has joined within is = refl
