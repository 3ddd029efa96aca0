-- Elements of lists by their index.
use Rattle.std.proofs.Common.{◌≡◌, ◌≢◌, ◌<◌, ℕ, zero, suc, List, [], ◌∷◌, get_or, map, Option, Some, None, sym, ap, ◌∙◌, refl, subst, inl, inr, arith, set, get_or-set_same, get_or-set_other, length-set}
use Rattle.std.specs.Prelude.{All, AllPairs, slice_get, slice_set, slice_index_or, option_map}
use Rattle.std.proofs.lemmas.Bool.{cases_eq}
use Rattle.std.proofs.lemmas.List.Elements.{All-map, All-head, All-tail}
use Rattle.std.proofs.lemmas.List.{length-map, get_or-map}
use Rattle.std.proofs.lemmas.List.Kept.{AllPairs-cons}
use Rattle.std.proofs.lemmas.Option.{slice_get-get_or, slice_get_within, get_or_from_slice_get, slice_get-map, same_Some}

-- the element that was set
pub set_here : {X : Type 0} (xs : List X) (i : ℕ) (x y : X) → slice_get (slice_set xs i x) i ≡ Some y → y ≡ x
set_here xs i x y e =
    let within = slice_get_within (set xs i x) i y e in
    let lengths = length-set xs i x in
    sym (get_or_from_slice_get (set xs i x) i y x e) ∙ get_or-set_same xs i x x (omega arith)

-- the others are as they were
pub set_elsewhere : {X : Type 0} (xs : List X) (i j : ℕ) (x y : X) → j ≢ i → slice_get (slice_set xs i x) j ≡ Some y → slice_get xs j ≡ Some y
set_elsewhere xs i j x y other e =
    let within = slice_get_within (set xs i x) j y e in
    let lengths = length-set xs i x in
    slice_get-get_or xs j x (omega arith) ∙ ap Some (sym (get_or-set_other xs i j x x other) ∙ get_or_from_slice_get (set xs i x) j y x e)

-- what is so of all is so after one was set to what is so
pub all_set : {X : Type 0} (P : X → Type 0) (xs : List X) (i : ℕ) (x : X) → P x → All P xs → All P (slice_set xs i x)
all_set P xs i x so h = λ k d lt.
    let e = slice_get-get_or (set xs i x) k d lt in
    elim (cases_eq k i) [
      | inl same ↦ subst P (sym (set_here xs i x (get_or (set xs i x) k d) (subst (λ n. slice_get (set xs i x) n ≡ Some (get_or (set xs i x) k d)) same e))) so
      | inr other ↦
          let before = set_elsewhere xs i k x (get_or (set xs i x) k d) other e in
          subst P (get_or_from_slice_get xs k (get_or (set xs i x) k d) d before) (h k d (slice_get_within xs k (get_or (set xs i x) k d) before))
    ]

-- if a mapped list has an element, the list has one that gives it
pub map_has : {X Y : Type 0} (f : X → Y) (xs : List X) (i : ℕ) (y : Y) → slice_get (map f xs) i ≡ Some y → (x : X) × (slice_get xs i ≡ Some x) × (f x ≡ y)
map_has {X} {Y} f xs i y e = from (slice_get xs i) refl (sym (slice_get-map f xs i) ∙ e) where
  from : (o : Option X) → slice_get xs i ≡ o → option_map f o ≡ Some y → (x : X) × (slice_get xs i ≡ Some x) × (f x ≡ y)
  from None is made = let no : None ≡ Some y = made in cc
  from (Some x) is made = (x, is, same_Some (f x) y made)

-- what is so of each pair by index
pub pairs_by_index : {X : Type 0} (R : X → X → Type 0) (xs : List X) → ((i j : ℕ) (x y : X) → i < j → slice_get xs i ≡ Some x → slice_get xs j ≡ Some y → R x y) → AllPairs R xs
pairs_by_index R xs f = λ i j d lt within. f i j (get_or xs i d) (get_or xs j d) lt (slice_get-get_or xs i d (omega arith)) (slice_get-get_or xs j d within)

-- the same of each element
pub all_by_index : {X : Type 0} (P : X → Type 0) (xs : List X) → ((i : ℕ) (x : X) → slice_get xs i ≡ Some x → P x) → All P xs
all_by_index P xs f = λ k d lt. f k (get_or xs k d) (slice_get-get_or xs k d lt)

-- pairs of a mapped list
pub pairs_map : {X Y : Type 0} (R : Y → Y → Type 0) (f : X → Y) (xs : List X) → AllPairs (λ a b. R (f a) (f b)) xs → AllPairs R (map f xs)
pairs_map R f [] h = λ i j d lt within. absurd (omega arith)
pairs_map R f (x ∷ xs) h = AllPairs-cons R (f x) (map f xs) (All-map (R (f x)) f xs (λ k d lt. h 0 (suc k) d (omega arith) (omega arith))) (pairs_map R f xs (λ i j d lt within. h (suc i) (suc j) d (omega arith) (omega arith)))

-- and back
pub pairs_back : {X Y : Type 0} (R : Y → Y → Type 0) (f : X → Y) (xs : List X) → AllPairs R (map f xs) → AllPairs (λ a b. R (f a) (f b)) xs
pairs_back R f xs h = λ i j d lt within.
    let lengths = length-map xs f in
    subst (λ y. R (f (get_or xs i d)) y) (get_or-map f xs j d (f d) within) (subst (λ y. R y (get_or (map f xs) j (f d))) (get_or-map f xs i d (f d) (omega arith)) (h i j (f d) lt (omega arith)))

-- the same of each element
pub all_back : {X Y : Type 0} (P : Y → Type 0) (f : X → Y) (xs : List X) → All P (map f xs) → All (λ x. P (f x)) xs
all_back P f xs h = λ k d lt.
    let lengths = length-map xs f in
    subst P (get_or-map f xs k d (f d) lt) (h k (f d) (omega arith))

-- what is so of all elements, and gives something else of each, gives it of all
pub all_then : {X : Type 0} (A B : X → Type 0) (xs : List X) → ((x : X) → A x → B x) → All A xs → All B xs
all_then A B xs f h = λ k d lt. f (get_or xs k d) (h k d lt)

-- what is so of all is so of the one at an index
pub at_so : {X : Type 0} (A : X → Type 0) (xs : List X) (i : ℕ) (x : X) → All A xs → slice_get xs i ≡ Some x → A x
at_so A xs i x h e = subst A (get_or_from_slice_get xs i x x e) (h i x (slice_get_within xs i x e))

-- what is so of all and of another is so of the one at an index, or of the other if there is none
pub at_or : {X : Type 0} (A : X → Type 0) (xs : List X) (i : ℕ) (d : X) → All A xs → A d → A (slice_index_or xs i d)
at_or A [] i d h so = so
at_or A (x ∷ xs) zero d h so = All-head A x xs h
at_or A (x ∷ xs) (suc i) d h so = at_or A xs i d (All-tail A x xs h) so

-- setting an element to what it is changes nothing
pub set_nothing : {X : Type 0} (xs : List X) (i : ℕ) (x : X) → slice_get xs i ≡ Some x → slice_set xs i x ≡ xs
set_nothing [] i x e = refl
set_nothing (y ∷ xs) zero x e = ap (λ z. z ∷ xs) (sym (same_Some y x e))
set_nothing (y ∷ xs) (suc i) x e = ap (λ ys. y ∷ ys) (set_nothing xs i x e)
