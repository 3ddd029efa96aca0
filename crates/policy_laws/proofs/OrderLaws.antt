-- Candidates are in a strict order, total between different numbers.
use Rattle.std.proofs.Common.{◌≡◌, ℕ, ◌+◌, ◌*◌, ◌<◌, Bool, true, false, cond, eqb, ltb, ◌⊎◌, inl, inr, ⊎_elim, sym, ◌∙◌, arith}
use Rattle.std.proofs.lemmas.Bool.{cases_order, false≢true}
use Rattle.std.proofs.lemmas.Bool.Decides.{nat_tests}
use Rattle.policy_laws.specs.declared.candidate.Candidate.{Candidate}
use Rattle.policy_laws.specs.Rank.{is_same, rank_before}

-- the test of ranks at the parts of two candidates
abbrev test : ℕ → Bool → ℕ → ℕ → Bool → ℕ → Bool
test d l i e m j = cond (eqb d e) (cond (is_same l m) (ltb i j) m) (ltb d e)

-- a late one comes after an early one
abbrev step : Bool → ℕ
step b = cond b 1 0

-- distance and lateness as one number, by which ranks are compared first
abbrev number : ℕ → Bool → ℕ
number d l = 2 * d + step l

-- what the test says
abbrev Before : ℕ → ℕ → ℕ → ℕ → Type 0
Before n i m j = (n < m) ⊎ ((n ≡ m) × (i < j))

tells : (d : ℕ) (l : Bool) (i e : ℕ) (m : Bool) (j : ℕ) → test d l i e m j ≡ true → Before (number d l) i (number e m) j
tells d true i e true j h = grind (arith, nat_tests)
tells d true i e false j h = grind (arith, nat_tests)
tells d false i e true j h = grind (arith, nat_tests)
tells d false i e false j h = grind (arith, nat_tests)

told : (d : ℕ) (l : Bool) (i e : ℕ) (m : Bool) (j : ℕ) → Before (number d l) i (number e m) j → test d l i e m j ≡ true
told d true i e true j h = ⊎_elim (λ less. grind (arith, nat_tests)) (λ same. grind (arith, nat_tests)) h
told d true i e false j h = ⊎_elim (λ less. grind (arith, nat_tests)) (λ same. grind (arith, nat_tests)) h
told d false i e true j h = ⊎_elim (λ less. grind (arith, nat_tests)) (λ same. grind (arith, nat_tests)) h
told d false i e false j h = ⊎_elim (λ less. grind (arith, nat_tests)) (λ same. grind (arith, nat_tests)) h

-- the first number of a candidate
abbrev key : Candidate → ℕ
key a = number a.rank.distance a.rank.late

before_tells : (a b : Candidate) → rank_before a b ≡ true → Before (key a) a.item (key b) b.item
before_tells a b h = tells a.rank.distance a.rank.late a.item b.rank.distance b.rank.late b.item h

before_told : (a b : Candidate) → Before (key a) a.item (key b) b.item → rank_before a b ≡ true
before_told a b h = told a.rank.distance a.rank.late a.item b.rank.distance b.rank.late b.item h

Before_chain : (n i m j k l : ℕ) → Before n i m j → Before m j k l → Before n i k l
Before_chain n i m j k l p q =
    ⊎_elim (λ less. ⊎_elim (λ less'. inl (omega arith)) (λ same'. inl (omega arith)) q)
    (λ same. ⊎_elim (λ less'. inl (omega arith)) (λ same'. inr (omega arith, omega arith)) q) p

Before_total : (n i m j : ℕ) → (i ≡ j → ⊥) → Before n i m j ⊎ Before m j n i
Before_total n i m j differ =
    ⊎_elim
    (λ same. ⊎_elim (λ e. absurd (differ e)) (λ apart. ⊎_elim (λ less. inl (inr (same, less))) (λ more. inr (inr (omega arith, more))) apart) (cases_order i j))
    (λ apart. ⊎_elim (λ less. inl (inl less)) (λ more. inr (inl more)) apart)
    (cases_order n m)

-- none ranks before itself
pub before_itself : (a : Candidate) → rank_before a a ≡ true → ⊥
before_itself a h = ⊎_elim {C = ⊥} (λ less. omega arith) (λ same. omega arith) (before_tells a a h)

-- what ranks before one ranks before what that one ranks before
pub before_chain : (a b c : Candidate) → rank_before a b ≡ true → rank_before b c ≡ true → rank_before a c ≡ true
before_chain a b c p q = before_told a c (Before_chain (key a) a.item (key b) b.item (key c) c.item (before_tells a b p) (before_tells b c q))

Before_either : (n i m j k l : ℕ) → Before n i k l → Before n i m j ⊎ Before m j k l
Before_either n i m j k l h =
    ⊎_elim
    (λ same. ⊎_elim
    (λ e. inr (⊎_elim {C = Before m j k l} (λ less. inl (omega arith)) (λ tie. inr (omega arith, omega arith)) h))
    (λ apart. ⊎_elim (λ less. inl (inr (same, less))) (λ more. inr (⊎_elim {C = Before m j k l} (λ less'. inl (omega arith)) (λ tie. inr (omega arith, omega arith)) h)) apart)
    (cases_order i j))
    (λ apart. ⊎_elim (λ less. inl (inl less)) (λ more. inr (inl (⊎_elim {C = m < k} (λ less'. omega arith) (λ tie. omega arith) h))) apart)
    (cases_order n m)

-- what lies between two, one of them ranks before it or it ranks before the other
pub before_either : (a b c : Candidate) → rank_before a c ≡ true → (rank_before a b ≡ true) ⊎ (rank_before b c ≡ true)
before_either a b c h =
    ⊎_elim (λ one. inl (before_told a b one)) (λ other. inr (before_told b c other))
    (Before_either (key a) a.item (key b) b.item (key c) c.item (before_tells a c h))

-- of two candidates with different numbers one ranks before the other
pub before_other : (a b : Candidate) → (a.item ≡ b.item → ⊥) → rank_before a b ≡ false → rank_before b a ≡ true
before_other a b differ not_before =
    ⊎_elim (λ one. absurd (false≢true (sym not_before ∙ before_told a b one))) (before_told b a) (Before_total (key a) a.item (key b) b.item differ)
