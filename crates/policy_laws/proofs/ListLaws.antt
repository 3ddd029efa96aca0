-- Lists of candidates that stand by rank, and what fits of them.
use Rattle.std.proofs.Common.{◌≡◌, ℕ, zero, suc, ◌+◌, true, List, [], ◌∷◌, length, AllPairs, ◌⊎◌, inl, inr, ⊎_elim, refl, sym, ap, subst, ◌∙◌, arith}
use Rattle.std.proofs.lemmas.Bool.{cond_both}
use Rattle.std.proofs.lemmas.List.Elements.{recursion_from_All}
use Rattle.std.proofs.lemmas.List.Sums.{sum_by-cons}
use Rattle.std.specs.List.{AllByRecursion, sum_by, fold}
use Rattle.policy_laws.specs.declared.candidate.Candidate.{Candidate}
use Rattle.policy_laws.specs.Rank.{rank_before, placed_in}
use Rattle.policy_laws.proofs.OrderLaws.{before_chain, before_other}

-- the bytes of candidates
abbrev pub total : List Candidate → ℕ
total xs = sum_by (λ x. x.size) xs

-- a relation of each candidate and each later one
abbrev pub Pairs : (Candidate → Candidate → Type 0) → List Candidate → Type 0
Pairs R [] = Unit {0}
Pairs R (x ∷ xs) = AllByRecursion (R x) xs × Pairs R xs

-- what is true of all pairs is true of each and each later one
pub pairs_from : (R : Candidate → Candidate → Type 0) (xs : List Candidate) → AllPairs R xs → Pairs R xs
pairs_from R [] all = tt
pairs_from R (x ∷ xs) all = (
  recursion_from_All (R x) xs (λ k d within. all zero (suc k) d (omega arith) (omega arith)),
  pairs_from R xs (λ i j d before within. all (suc i) (suc j) d (omega arith) (omega arith)),
)

-- a candidate is among others
abbrev pub Among : Candidate → List Candidate → Type 0
Among z [] = ⊥
Among z (x ∷ xs) = (x ≡ z) ⊎ Among z xs

-- the first of two ranks before the second
abbrev pub Ranks : Candidate → Candidate → Type 0
Ranks a b = rank_before a b ≡ true

-- two have different numbers
abbrev pub Differ : Candidate → Candidate → Type 0
Differ a b = a.item ≡ b.item → ⊥

pub All_map : (P Q : Candidate → Type 0) → ((x : Candidate) → P x → Q x) → (xs : List Candidate) → AllByRecursion P xs → AllByRecursion Q xs
All_map P Q gives [] all = tt
All_map P Q gives (x ∷ xs) all = (gives x all.0, All_map P Q gives xs all.1)

pub All_among : (P : Candidate → Type 0) (xs : List Candidate) (z : Candidate) → AllByRecursion P xs → Among z xs → P z
All_among P [] z all h = absurd h
All_among P (x ∷ xs) z all h = ⊎_elim (λ e. subst P e all.0) (λ later. All_among P xs z all.1 later) h

-- ---- one candidate more

pub All-placed_in : (P : Candidate → Type 0) (x : Candidate) (ys : List Candidate) → P x → AllByRecursion P ys → AllByRecursion P (placed_in x ys)
All-placed_in P x [] h all = (h, tt)
All-placed_in P x (y ∷ ys) h all =
    cond_both (rank_before x y) (x ∷ y ∷ ys) (y ∷ placed_in x ys) (AllByRecursion P) (λ _. (h, all)) (λ _. (all.0, All-placed_in P x ys h all.1))

pub length-placed_in : (x : Candidate) (ys : List Candidate) → length (placed_in x ys) ≡ suc (length ys)
length-placed_in x [] = refl
length-placed_in x (y ∷ ys) =
    cond_both (rank_before x y) (x ∷ y ∷ ys) (y ∷ placed_in x ys) (λ l. length l ≡ suc (suc (length ys))) (λ _. refl) (λ _. ap suc (length-placed_in x ys))

pub total-placed_in : (x : Candidate) (ys : List Candidate) → total (placed_in x ys) ≡ x.size + total ys
total-placed_in x [] = sum_by-cons (λ (x : Candidate). x.size) x []
total-placed_in x (y ∷ ys) =
    cond_both (rank_before x y) (x ∷ y ∷ ys) (y ∷ placed_in x ys) (λ l. total l ≡ x.size + total (y ∷ ys))
    (λ _. sum_by-cons (λ (x : Candidate). x.size) x (y ∷ ys))
    (λ _. later _ _ _ _ _ _ (sum_by-cons (λ (x : Candidate). x.size) y (placed_in x ys)) (sum_by-cons (λ (x : Candidate). x.size) y ys) (total-placed_in x ys))
  where
    later : (a b c d e f : ℕ) → a ≡ d + b → c ≡ d + e → b ≡ f + e → a ≡ f + c
    later a b c d e f p q r = omega arith

-- numbers stay different
pub Pairs_differ-placed_in : (x : Candidate) (ys : List Candidate) → AllByRecursion (Differ x) ys → Pairs Differ ys → Pairs Differ (placed_in x ys)
Pairs_differ-placed_in x [] apart pairs = (tt, tt)
Pairs_differ-placed_in x (y ∷ ys) apart pairs =
    cond_both (rank_before x y) (x ∷ y ∷ ys) (y ∷ placed_in x ys) (Pairs Differ)
    (λ _. (apart, pairs))
    (λ _. (All-placed_in (Differ y) x ys (λ e. apart.0 (sym e)) pairs.0, Pairs_differ-placed_in x ys apart.1 pairs.1))

-- candidates that stand by rank still do with one more between them
pub Pairs_ranks-placed_in : (x : Candidate) (ys : List Candidate) → AllByRecursion (Differ x) ys → Pairs Ranks ys → Pairs Ranks (placed_in x ys)
Pairs_ranks-placed_in x [] apart pairs = (tt, tt)
Pairs_ranks-placed_in x (y ∷ ys) apart pairs =
    cond_both (rank_before x y) (x ∷ y ∷ ys) (y ∷ placed_in x ys) (Pairs Ranks)
    (λ first. ((first, All_map (Ranks y) (Ranks x) (λ z after. before_chain x y z first after) ys pairs.0), pairs))
    (λ later. (All-placed_in (Ranks y) x ys (before_other x y apart.0 later) pairs.0, Pairs_ranks-placed_in x ys apart.1 pairs.1))

pub among-placed_in : (z x : Candidate) (ys : List Candidate) → (x ≡ z) ⊎ Among z ys → Among z (placed_in x ys)
among-placed_in z x [] h = h
among-placed_in z x (y ∷ ys) h =
    cond_both (rank_before x y) (x ∷ y ∷ ys) (y ∷ placed_in x ys) (Among z)
    (λ _. h)
    (λ _. ⊎_elim (λ e. inr (among-placed_in z x ys (inl e))) (λ old. ⊎_elim (λ e. inl e) (λ later. inr (among-placed_in z x ys (inr later))) old) h)

-- ---- all candidates

abbrev pub ranked_from : List Candidate → List Candidate → List Candidate
ranked_from acc all = fold (λ ranked x. placed_in x ranked) acc all

pub All-ranked_from : (P : Candidate → Type 0) (acc all : List Candidate) → AllByRecursion P acc → AllByRecursion P all → AllByRecursion P (ranked_from acc all)
All-ranked_from P acc [] had some = had
All-ranked_from P acc (x ∷ xs) had some = All-ranked_from P (placed_in x acc) xs (All-placed_in P x acc some.0 had) some.1

pub length-ranked_from : (acc all : List Candidate) → length (ranked_from acc all) ≡ length acc + length all
length-ranked_from acc [] = omega arith
length-ranked_from acc (x ∷ xs) = length-ranked_from (placed_in x acc) xs ∙ more _ _ _ (length-placed_in x acc)
  where
    more : (a b c : ℕ) → a ≡ suc b → a + c ≡ b + suc c
    more a b c p = omega arith

pub total-ranked_from : (acc all : List Candidate) → total (ranked_from acc all) ≡ total acc + total all
total-ranked_from acc [] = omega arith
total-ranked_from acc (x ∷ xs) = total-ranked_from (placed_in x acc) xs ∙ more _ _ _ _ _ (total-placed_in x acc) (sum_by-cons (λ (x : Candidate). x.size) x xs)
  where
    more : (a b c d e : ℕ) → a ≡ d + b → c ≡ d + e → a + e ≡ b + c
    more a b c d e p q = omega arith

pub among-ranked_from : (z : Candidate) (acc all : List Candidate) → Among z acc ⊎ Among z all → Among z (ranked_from acc all)
among-ranked_from z acc [] h = ⊎_elim (λ had. had) (λ none. absurd none) h
among-ranked_from z acc (x ∷ xs) h =
    among-ranked_from z (placed_in x acc) xs
    (⊎_elim (λ had. inl (among-placed_in z x acc (inr had))) (λ some. ⊎_elim (λ e. inl (among-placed_in z x acc (inl e))) (λ later. inr later) some) h)

-- the numbers of all are different from those of some
abbrev Apart : List Candidate → List Candidate → Type 0
Apart acc all = AllByRecursion (λ x. AllByRecursion (Differ x) acc) all

Apart-placed_in : (x : Candidate) (acc all : List Candidate) → AllByRecursion (Differ x) all → Apart acc all → Apart (placed_in x acc) all
Apart-placed_in x acc [] from_x apart = tt
Apart-placed_in x acc (y ∷ ys) from_x apart =
    (All-placed_in (Differ y) x acc (λ e. from_x.0 (sym e)) apart.0, Apart-placed_in x acc ys from_x.1 apart.1)

pub Pairs_differ-ranked_from : (acc all : List Candidate) → Pairs Differ acc → Pairs Differ all → Apart acc all → Pairs Differ (ranked_from acc all)
Pairs_differ-ranked_from acc [] had some apart = had
Pairs_differ-ranked_from acc (x ∷ xs) had some apart =
    Pairs_differ-ranked_from (placed_in x acc) xs (Pairs_differ-placed_in x acc apart.0 had) some.1 (Apart-placed_in x acc xs some.0 apart.1)

pub Pairs_ranks-ranked_from : (acc all : List Candidate) → Pairs Ranks acc → Pairs Differ all → Apart acc all → Pairs Ranks (ranked_from acc all)
Pairs_ranks-ranked_from acc [] had some apart = had
Pairs_ranks-ranked_from acc (x ∷ xs) had some apart =
    Pairs_ranks-ranked_from (placed_in x acc) xs (Pairs_ranks-placed_in x acc apart.0 had) some.1 (Apart-placed_in x acc xs some.0 apart.1)

pub Apart-none : (all : List Candidate) → Apart [] all
Apart-none [] = tt
Apart-none (x ∷ xs) = (tt, Apart-none xs)
