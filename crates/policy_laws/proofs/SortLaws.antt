-- A stable sort by rank is what placing one candidate after the other gives.
use Rattle.std.proofs.Common.{◌≡◌, Bool, true, false, not, cond, List, [], ◌∷◌, ◌++◌, ⊎_elim, refl, sym, ap, ◌∙◌, append_assoc, append-nil, arith}
use Rattle.std.proofs.lemmas.Bool.{cases_Bool, cond_both, cond-true, cond-false, false≢true, and_parts, and_from, false_from_ne_true}
use Rattle.std.proofs.lemmas.List.Elements.{filter-append}
use Rattle.std.proofs.lemmas.List.Sorted.{sorted_far}
use Rattle.std.specs.Cmp.{IsStrictWeakOrder}
use Rattle.std.specs.List.{AllByRecursion, filter}
use Rattle.std.specs.List.Sorted.{IsSortedBy, IsStableBy, ties}
use Rattle.policy_laws.specs.declared.candidate.Candidate.{Candidate}
use Rattle.policy_laws.specs.Rank.{rank_before, placed_in, by_rank}
use Rattle.policy_laws.proofs.OrderLaws.{before_itself, before_chain, before_either}
use Rattle.policy_laws.proofs.ListLaws.{Pairs, All_map, All-placed_in, ranked_from, pairs_from}

one_way : (x y : Candidate) → rank_before x y ≡ true → rank_before y x ≡ false
one_way x y h = false_from_ne_true (rank_before y x) (λ back. before_itself x (before_chain x y x h back))

chain : (x y z : Candidate) → rank_before x y ≡ false → rank_before y z ≡ false → rank_before x z ≡ false
chain x y z p q = false_from_ne_true (rank_before x z) (λ h. ⊎_elim (λ one. false≢true (sym p ∙ one)) (λ other. false≢true (sym q ∙ other)) (before_either x y z h))

-- ranks are an order, in which candidates may tie
pub ranks_are_ordered : IsStrictWeakOrder rank_before
ranks_are_ordered = record { one_way = one_way; chain = chain }

-- the second of two does not rank before the first
abbrev NotAfter : Candidate → Candidate → Type 0
NotAfter a b = rank_before b a ≡ false

-- a candidate ties with another
abbrev tied : Candidate → Candidate → Bool
tied x y = ties rank_before x y

not-true : (b : Bool) → not b ≡ true → b ≡ false
not-true true h = sym h
not-true false h = refl

ties-parts : (x y : Candidate) → tied x y ≡ true → (rank_before x y ≡ false) × (rank_before y x ≡ false)
ties-parts x y h =
    let both = and_parts (not (rank_before x y)) (not (rank_before y x)) h in
    (not-true _ both.0, not-true _ both.1)

ties-from : (x y : Candidate) → rank_before x y ≡ false → rank_before y x ≡ false → tied x y ≡ true
ties-from x y p q = and_from _ _ (ap not p) (ap not q)

ties_itself : (x : Candidate) → tied x x ≡ true
ties_itself x = let never = false_from_ne_true (rank_before x x) (before_itself x) in ties-from x x never never

-- ---- one list of those that stand in order and tie alike

-- one of these candidates ties with a, so a does not rank before b
tied_among : (a b : Candidate) (ys : List Candidate) (c : Candidate) (cs : List Candidate) → AllByRecursion (NotAfter b) ys → filter (tied a) ys ≡ c ∷ cs → rank_before a b ≡ false
tied_among a b [] c cs all e = absurd cc
tied_among a b (y ∷ ys) c cs all e =
    ⊎_elim
    (λ t. chain a y b (ties-parts a y t).0 all.0)
    (λ f. tied_among a b ys c cs all.1 (sym (cond-false (tied a y) _ _ f) ∙ e))
    (cases_Bool (tied a y))

head_tied : (a : Candidate) (front : List Candidate) → filter (tied a) (a ∷ front) ≡ a ∷ filter (tied a) front
head_tied a front = cond-true (tied a a) _ _ (ties_itself a)

-- heads of two such lists are one
heads_tie : (a b : Candidate) (front bs : List Candidate) → AllByRecursion (NotAfter a) front → AllByRecursion (NotAfter b) bs →
    ((x : Candidate) → filter (tied x) (a ∷ front) ≡ filter (tied x) (b ∷ bs)) → tied a b ≡ true
heads_tie a b front bs pa pb same =
    ⊎_elim (λ t. t) (λ f. ties-from a b (forth f) (⊎_elim (λ t. (ties-parts b a t).0) (λ g. back g) (cases_Bool (tied b a)))) (cases_Bool (tied a b))
  where
    forth : tied a b ≡ false → rank_before a b ≡ false
    forth f = tied_among a b bs a (filter (tied a) front) pb (sym (cond-false (tied a b) _ _ f) ∙ sym (same a) ∙ head_tied a front)

    back : tied b a ≡ false → rank_before b a ≡ false
    back g = tied_among b a front b (filter (tied b) bs) pa (sym (cond-false (tied b a) _ _ g) ∙ same b ∙ head_tied b bs)

-- what is left of equal lists, if the same stands before
tails : (b : Bool) (a c : Candidate) (xs ys : List Candidate) → a ≡ c → cond b (a ∷ xs) xs ≡ cond b (c ∷ ys) ys → xs ≡ ys
tails true a c xs ys e same = cc
tails false a c xs ys e same = same

pub one_order : (front bs : List Candidate) → Pairs NotAfter front → Pairs NotAfter bs → ((x : Candidate) → filter (tied x) front ≡ filter (tied x) bs) → front ≡ bs
one_order [] [] pa pb same = refl
one_order [] (b ∷ bs) pa pb same = let e : [] ≡ b ∷ filter (tied b) bs = same b ∙ head_tied b bs in absurd cc
one_order (a ∷ front) [] pa pb same = let e : a ∷ filter (tied a) front ≡ [] = sym (head_tied a front) ∙ same a in absurd cc
one_order (a ∷ front) (b ∷ bs) pa pb same =
    let t = heads_tie a b front bs pa.0 pb.0 same in
    let first : a ∷ filter (tied a) front ≡ b ∷ filter (tied a) bs = sym (head_tied a front) ∙ same a ∙ cond-true (tied a b) _ _ t in
    let one : a ≡ b = cc in
    let rest : front ≡ bs = one_order front bs pa.1 pb.1 (λ x. tails (tied x a) a b _ _ one (same x ∙ ap (λ (y : Candidate). cond (tied x y) (b ∷ filter (tied x) bs) (filter (tied x) bs)) (sym one))) in
    cc

-- ---- candidates that were placed one after the other

Pairs-placed_in : (x : Candidate) (ys : List Candidate) → Pairs NotAfter ys → Pairs NotAfter (placed_in x ys)
Pairs-placed_in x [] pairs = (tt, tt)
Pairs-placed_in x (y ∷ ys) pairs =
    cond_both (rank_before x y) (x ∷ y ∷ ys) (y ∷ placed_in x ys) (Pairs NotAfter)
    (λ first. ((one_way x y first, All_map (NotAfter y) (NotAfter x) (λ z after. chain z y x after (one_way x y first)) ys pairs.0), pairs))
    (λ later. (All-placed_in (NotAfter y) x ys later pairs.0, Pairs-placed_in x ys pairs.1))

-- none of those that rank after a candidate ties with what it ties with
none_tied : (z x : Candidate) (ys : List Candidate) → tied z x ≡ true → AllByRecursion (λ y. rank_before x y ≡ true) ys → filter (tied z) ys ≡ []
none_tied z x [] t all = refl
none_tied z x (y ∷ ys) t all =
    cond-false (tied z y) _ _ (false_from_ne_true (tied z y) (λ u.
    false≢true (sym (chain x z y (ties-parts z x t).1 (ties-parts z y u).0) ∙ all.0)))
    ∙ none_tied z x ys t all.1

behind : (x y w : Candidate) → rank_before x y ≡ true → NotAfter y w → rank_before x w ≡ true
behind x y w first after =
    ⊎_elim (λ t. t) (λ f. absurd (false≢true (sym (chain x w y f after) ∙ first))) (cases_Bool (rank_before x w))

-- the one that is placed stands after those that it ties with
tied-placed_in : (z x : Candidate) (ys : List Candidate) → Pairs NotAfter ys → filter (tied z) (placed_in x ys) ≡ filter (tied z) (ys ++ x ∷ [])
tied-placed_in z x [] pairs = refl
tied-placed_in z x (y ∷ ys) pairs =
    cond_both (rank_before x y) (x ∷ y ∷ ys) (y ∷ placed_in x ys) (λ l. filter (tied z) l ≡ filter (tied z) ((y ∷ ys) ++ x ∷ []))
    (λ first. at_front first)
    (λ later. ap (λ l. cond (tied z y) (y ∷ l) l) (tied-placed_in z x ys pairs.1))
  where
    at_front : rank_before x y ≡ true → filter (tied z) (x ∷ y ∷ ys) ≡ filter (tied z) ((y ∷ ys) ++ x ∷ [])
    at_front first =
        ⊎_elim
        (λ t.
        let all : AllByRecursion (λ w. rank_before x w ≡ true) (y ∷ ys) = (first, All_map (NotAfter y) (λ w. rank_before x w ≡ true) (λ w after. behind x y w first after) ys pairs.0) in
        let none = none_tied z x (y ∷ ys) t all in
        cond-true (tied z x) _ _ t ∙ ap (λ l. x ∷ l) none ∙ sym (filter-append (tied z) (y ∷ ys) (x ∷ []) ∙ ap (λ l. l ++ filter (tied z) (x ∷ [])) none ∙ cond-true (tied z x) _ _ t))
        (λ f.
        cond-false (tied z x) _ _ f ∙ sym (append-nil (filter (tied z) (y ∷ ys)))
        ∙ ap (λ l. filter (tied z) (y ∷ ys) ++ l) (sym (cond-false (tied z x) (x ∷ []) [] f)) ∙ sym (filter-append (tied z) (y ∷ ys) (x ∷ [])))
        (cases_Bool (tied z x))

Pairs-ranked_from : (acc all : List Candidate) → Pairs NotAfter acc → Pairs NotAfter (ranked_from acc all)
Pairs-ranked_from acc [] pairs = pairs
Pairs-ranked_from acc (x ∷ xs) pairs = Pairs-ranked_from (placed_in x acc) xs (Pairs-placed_in x acc pairs)

tied-ranked_from : (z : Candidate) (acc all : List Candidate) → Pairs NotAfter acc → filter (tied z) (ranked_from acc all) ≡ filter (tied z) (acc ++ all)
tied-ranked_from z acc [] pairs = ap (filter (tied z)) (sym (append-nil acc))
tied-ranked_from z acc (x ∷ xs) pairs =
    tied-ranked_from z (placed_in x acc) xs (Pairs-placed_in x acc pairs)
    ∙ filter-append (tied z) (placed_in x acc) xs
    ∙ ap (λ l. l ++ filter (tied z) xs) (tied-placed_in z x acc pairs)
    ∙ sym (filter-append (tied z) (acc ++ x ∷ []) xs)
    ∙ ap (filter (tied z)) (append_assoc acc (x ∷ []) xs)

-- what a stable sort by rank gives
pub sorted_is : (all sorted : List Candidate) → IsSortedBy rank_before sorted → IsStableBy rank_before all sorted → sorted ≡ by_rank all
sorted_is all sorted up stable =
    one_order sorted (by_rank all)
    (pairs_from NotAfter sorted (λ i j d before within. sorted_far rank_before ranks_are_ordered sorted up i j d (omega arith) within))
    (Pairs-ranked_from [] all tt)
    (λ x. stable x ∙ sym (tied-ranked_from x [] all tt))
