-- What fits of candidates that stand by rank.
use Rattle.std.proofs.Common.{◌≡◌, ℕ, suc, ◌+◌, ◌-◌, ◌<◌, ◌≤◌, Bool, true, false, ◌&&◌, leb, ltb, List, [], ◌∷◌, length, ◌↔◌, inl, inr, ⊎_elim, refl, sym, ap, subst, ◌∙◌, arith}
use Rattle.std.proofs.lemmas.Bool.{cond_both, false≢true, and_parts, and_from, ltb-true, leb-true, lt-ltb, le-leb, cond-true, cond-false, false_from_ne_true}
use Rattle.std.proofs.lemmas.List.Sums.{sum_by-cons}
use Rattle.std.specs.List.{AllByRecursion}
use Rattle.policy_laws.specs.declared.candidate.Candidate.{Candidate}
use Rattle.policy_laws.specs.Rank.{rank_before, kept_before, fitting}
use Rattle.policy_laws.proofs.OrderLaws.{before_itself, before_chain}
use Rattle.policy_laws.proofs.ListLaws.{total, Pairs, Among, Ranks, All_among}

-- a candidate is next if it fits
abbrev fits : ℕ → ℕ → Candidate → Bool
fits room number x = leb x.size room && ltb 0 number

pub All-fitting : (P : Candidate → Type 0) (room number : ℕ) (xs : List Candidate) → AllByRecursion P xs → AllByRecursion P (fitting room number xs)
All-fitting P room number [] all = tt
All-fitting P room number (x ∷ xs) all =
    cond_both (fits room number x) (x ∷ fitting (room - x.size) (number - 1) xs) (fitting room number xs) (AllByRecursion P)
    (λ _. (all.0, All-fitting P (room - x.size) (number - 1) xs all.1))
    (λ _. All-fitting P room number xs all.1)

pub Pairs-fitting : (R : Candidate → Candidate → Type 0) (room number : ℕ) (xs : List Candidate) → Pairs R xs → Pairs R (fitting room number xs)
Pairs-fitting R room number [] pairs = tt
Pairs-fitting R room number (x ∷ xs) pairs =
    cond_both (fits room number x) (x ∷ fitting (room - x.size) (number - 1) xs) (fitting room number xs) (Pairs R)
    (λ _. (All-fitting (R x) (room - x.size) (number - 1) xs pairs.0, Pairs-fitting R (room - x.size) (number - 1) xs pairs.1))
    (λ _. Pairs-fitting R room number xs pairs.1)

total_first : (room : ℕ) (x : Candidate) (ks : List Candidate) → x.size ≤ room → total ks ≤ room - x.size → total (x ∷ ks) ≤ room
total_first room x ks small within = let sums = sum_by-cons (λ (x : Candidate). x.size) x ks in omega arith

-- what fits takes no more than the room
pub total-fitting : (room number : ℕ) (xs : List Candidate) → total (fitting room number xs) ≤ room
total-fitting room number [] = omega arith
total-fitting room number (x ∷ xs) =
    cond_both (fits room number x) (x ∷ fitting (room - x.size) (number - 1) xs) (fitting room number xs) (λ l. total l ≤ room)
    (λ t. total_first room x (fitting (room - x.size) (number - 1) xs) (leb-true x.size room (and_parts _ _ t).0) (total-fitting (room - x.size) (number - 1) xs))
    (λ _. total-fitting room number xs)

-- and has no more candidates than the number
pub length-fitting : (room number : ℕ) (xs : List Candidate) → length (fitting room number xs) ≤ number
length-fitting room number [] = omega arith
length-fitting room number (x ∷ xs) =
    cond_both (fits room number x) (x ∷ fitting (room - x.size) (number - 1) xs) (fitting room number xs) (λ l. length l ≤ number)
    (λ t. more _ (ltb-true 0 number (and_parts _ _ t).1) (length-fitting (room - x.size) (number - 1) xs))
    (λ _. length-fitting room number xs)
  where
    more : (a : ℕ) → 0 < number → a ≤ number - 1 → suc a ≤ number
    more a h p = omega arith

-- if all fit, all do
pub all_fitting : (room number : ℕ) (xs : List Candidate) → total xs ≤ room → length xs ≤ number → fitting room number xs ≡ xs
all_fitting room number [] within few = refl
all_fitting room number (x ∷ xs) within few =
    let sums = sum_by-cons (λ (x : Candidate). x.size) x xs in
    let small : x.size ≤ room = omega arith in
    let some : 0 < number = omega arith in
    let rest = all_fitting (room - x.size) (number - 1) xs (omega arith) (omega arith) in
    cond-true (fits room number x) _ _ (and_from _ _ (le-leb x.size room small) (lt-ltb 0 number some)) ∙ ap (λ l. x ∷ l) rest

-- ---- what fits is what fits after the kept ones that rank before it

-- a candidate fits into a room and a number after kept ones
abbrev pub Fits : ℕ → ℕ → List Candidate → Candidate → Type 0
Fits room number ks y = (y.size + total (kept_before ks y) ≤ room) × (length (kept_before ks y) < number)

-- what ranks before one does not rank after it
not_behind : (x k : Candidate) → Ranks x k → rank_before k x ≡ false
not_behind x k h = false_from_ne_true (rank_before k x) (λ t. before_itself x (before_chain x k x h t))

-- nothing of what ranks after one is before it
none_before : (x : Candidate) (ks : List Candidate) → AllByRecursion (Ranks x) ks → kept_before ks x ≡ []
none_before x [] all = refl
none_before x (k ∷ ks) all = cond-false (rank_before k x) _ _ (not_behind x k all.0) ∙ none_before x ks all.1

-- the first of all, if it is kept
none_before_itself : (x : Candidate) (ks : List Candidate) → AllByRecursion (Ranks x) ks → kept_before (x ∷ ks) x ≡ []
none_before_itself x ks all = cond-false (rank_before x x) _ _ (false_from_ne_true (rank_before x x) (before_itself x)) ∙ none_before x ks all

-- after nothing a candidate fits if it is small enough
fits_first : (room number : ℕ) (x : Candidate) (ks : List Candidate) → kept_before ks x ≡ [] → x.size ≤ room → 0 < number → Fits room number ks x
fits_first room number x ks none small some = rw none (omega arith, some)

fits_only : (room number : ℕ) (x : Candidate) (ks : List Candidate) → kept_before ks x ≡ [] → Fits room number ks x → fits room number x ≡ true
fits_only room number x ks none h =
    let bytes : total (kept_before ks x) ≡ 0 = ap total none in
    let few : length (kept_before ks x) ≡ 0 = ap length none in
    and_from _ _ (le-leb x.size room (omega arith)) (lt-ltb 0 number (omega arith))

-- after a first one that is kept there is less room, for fewer
fits_behind : (room number : ℕ) (x y : Candidate) (ks : List Candidate) → Ranks x y → x.size ≤ room → 0 < number →
    Fits (room - x.size) (number - 1) ks y ↔ Fits room number (x ∷ ks) y
fits_behind room number x y ks first small some =
    let listed : kept_before (x ∷ ks) y ≡ x ∷ kept_before ks y = cond-true (rank_before x y) _ _ first in
    let bytes : total (kept_before (x ∷ ks) y) ≡ x.size + total (kept_before ks y) = ap total listed ∙ sum_by-cons (λ (x : Candidate). x.size) x (kept_before ks y) in
    let count : length (kept_before (x ∷ ks) y) ≡ suc (length (kept_before ks y)) = ap length listed in
    let there : Fits (room - x.size) (number - 1) ks y → Fits room number (x ∷ ks) y = λ h. (omega arith, omega arith) in
    let back : Fits room number (x ∷ ks) y → Fits (room - x.size) (number - 1) ks y = λ h. (omega arith, omega arith) in
    (there, back)

-- if the first is kept
kept_first : (room number : ℕ) (x y : Candidate) (xs : List Candidate) → Pairs Ranks (x ∷ xs) → fits room number x ≡ true → Among y (x ∷ xs) →
    (Among y xs → (Among y (fitting (room - x.size) (number - 1) xs) ↔ Fits (room - x.size) (number - 1) (fitting (room - x.size) (number - 1) xs) y)) →
    (Among y (x ∷ fitting (room - x.size) (number - 1) xs) ↔ Fits room number (x ∷ fitting (room - x.size) (number - 1) xs) y)
kept_first room number x y xs pairs t h rest =
    let ks = fitting (room - x.size) (number - 1) xs in
    let small : x.size ≤ room = leb-true x.size room (and_parts _ _ t).0 in
    let some : 0 < number = ltb-true 0 number (and_parts _ _ t).1 in
    let Q : Candidate → Type 0 = λ z. Among z (x ∷ ks) ↔ Fits room number (x ∷ ks) z in
    let none : kept_before (x ∷ ks) x ≡ [] = none_before_itself x ks (All-fitting (Ranks x) (room - x.size) (number - 1) xs pairs.0) in
    let at_first : Q x = ((λ _. fits_first room number x (x ∷ ks) none small some), (λ _. inl refl)) in
    ⊎_elim (λ e. subst Q e at_first)
    (λ later. at_later (All_among (Ranks x) xs y pairs.0 later) ks small some (rest later)) h
  where
    at_later : Ranks x y → (ks : List Candidate) → x.size ≤ room → 0 < number → (Among y ks ↔ Fits (room - x.size) (number - 1) ks y) → (Among y (x ∷ ks) ↔ Fits room number (x ∷ ks) y)
    at_later first ks small some here =
        let behind = fits_behind room number x y ks first small some in
        let there : Among y (x ∷ ks) → Fits room number (x ∷ ks) y =
        λ among. ⊎_elim (λ e. absurd (before_itself x (subst (Ranks x) (sym e) first))) (λ among'. behind.0 (here.0 among')) among in
        (there, (λ fit. inr (here.1 (behind.1 fit))))

-- if the first is left out
left_first : (room number : ℕ) (x y : Candidate) (xs : List Candidate) → Pairs Ranks (x ∷ xs) → fits room number x ≡ false → Among y (x ∷ xs) →
    (Among y xs → (Among y (fitting room number xs) ↔ Fits room number (fitting room number xs) y)) →
    (Among y (fitting room number xs) ↔ Fits room number (fitting room number xs) y)
left_first room number x y xs pairs f h rest =
    let ks = fitting room number xs in
    let Q : Candidate → Type 0 = λ z. Among z ks ↔ Fits room number ks z in
    let all : AllByRecursion (Ranks x) ks = All-fitting (Ranks x) room number xs pairs.0 in
    let there : Among x ks → Fits room number ks x = λ among. absurd (before_itself x (All_among (Ranks x) ks x all among)) in
    let back : Fits room number ks x → Among x ks = λ fit. absurd (false≢true (sym f ∙ fits_only room number x ks (none_before x ks all) fit)) in
    let at_first : Q x = (there, back) in
    ⊎_elim (λ e. subst Q e at_first) rest h

-- a candidate of some that stand by rank is kept exactly when it fits after the kept ones that rank before it
pub exactly_fitting : (room number : ℕ) (xs : List Candidate) → Pairs Ranks xs → (y : Candidate) → Among y xs →
    (Among y (fitting room number xs) ↔ Fits room number (fitting room number xs) y)
exactly_fitting room number [] pairs y h = absurd h
exactly_fitting room number (x ∷ xs) pairs y h =
    let P : List Candidate → Type 0 = λ ks. Among y ks ↔ Fits room number ks y in
    cond_both (fits room number x) (x ∷ fitting (room - x.size) (number - 1) xs) (fitting room number xs) P
    (λ t. kept_first room number x y xs pairs t h (exactly_fitting (room - x.size) (number - 1) xs pairs.1 y))
    (λ f. left_first room number x y xs pairs f h (exactly_fitting room number xs pairs.1 y))
