-- Elements of lists by their indexes, and lists in order.
use Rattle.std.proofs.Common.{◌≡◌, ℕ, ◌<◌, ◌≤◌, zero, suc, true, false, leb, ltb, Option, Some, List, [], ◌∷◌, ◌++◌, length, get_or, sym, ap, ◌∙◌, subst, arith, refl}
use Rattle.std.specs.Prelude.{All, Contains, slice_get}
use Rattle.std.specs.List.{AllWithin, filter_map}
use Rattle.std.specs.List.Sorted.{IsNonDecreasingBy, IsPermutation}
use Rattle.std.proofs.lemmas.Bool.{leb-true, ltb-true}
use Rattle.std.proofs.lemmas.Bool.Decides.{nat_tests}
use Rattle.std.proofs.lemmas.List.{get_or_append_left, get_or_push, length_push}
use Rattle.std.proofs.lemmas.List.Sorted.{Contains-permutation, IsPermutation-sym}
use Rattle.std.proofs.lemmas.Option.{get_or_from_slice_get, slice_get_within, same_Some, slice_get-get_or}
use Rattle.certificate_checker.proofs.public_laws.Listing.{contained_member, member_contained, member_picked, picked_member}
use Rattle.certificate_finder.specs.Writing.{IsSplit, IsSplitBelow}

-- what holds of each element holds of the one at an index
pub all_at : {X : Type 0} (P : X → Type 0) (xs : List X) (k : ℕ) (x : X) → All P xs → slice_get xs k ≡ Some x → P x
all_at P xs k x all at = subst P (get_or_from_slice_get xs k x x at) (all k x (slice_get_within xs k x at))

-- what holds of the element at each index holds of all
pub all_from_at : {X : Type 0} (P : X → Type 0) (xs : List X) → ((k : ℕ) (x : X) → slice_get xs k ≡ Some x → P x) → All P xs
all_from_at P xs each = λ k d less. each k (get_or xs k d) (slice_get-get_or xs k d less)

-- an element has an index, and what is at an index is an element
pub index_of : {X : Type 0} (xs : List X) (x : X) → Contains xs x → (k : ℕ) × (slice_get xs k ≡ Some x)
index_of xs x has = (has.0, slice_get-get_or xs has.0 x has.1 ∙ ap Some has.2)

pub contains_at : {X : Type 0} (xs : List X) (k : ℕ) (x : X) → slice_get xs k ≡ Some x → Contains xs x
contains_at xs k x at = (k, slice_get_within xs k x at, get_or_from_slice_get xs k x x at)

-- what holds of each element holds of one that is contained
pub all_of : {X : Type 0} (P : X → Type 0) (xs : List X) (x : X) → All P xs → Contains xs x → P x
all_of P xs x all has = let k = index_of xs x has in all_at P xs k.0 x all k.1

-- two elements at one index are the same
pub same_at : {X : Type 0} (xs : List X) (i j : ℕ) (x y : X) → i ≡ j → slice_get xs i ≡ Some x → slice_get xs j ≡ Some y → x ≡ y
same_at xs i j x y same one other = same_Some x y (sym one ∙ ap (slice_get xs) same ∙ other)

-- what is within a list is there
pub found_at : {X : Type 0} (xs : List X) (k : ℕ) → k < length xs → (x : X) × (slice_get xs k ≡ Some x)
found_at [] k less = absurd (omega arith)
found_at (x ∷ xs) zero less = (x, refl)
found_at (x ∷ xs) (suc k) less = found_at xs k (omega arith)

-- what is at an index of a list with one more: the new one, or one from before
pub at_push : {X : Type 0} (xs : List X) (y x : X) (k : ℕ) → slice_get (xs ++ y ∷ []) k ≡ Some x → k ≡ length xs → y ≡ x
at_push xs y x k at last = sym (get_or_push xs y x k (sym last)) ∙ get_or_from_slice_get (xs ++ y ∷ []) k x x at

pub at_front : {X : Type 0} (xs : List X) (y x : X) (k : ℕ) → slice_get (xs ++ y ∷ []) k ≡ Some x → (k ≡ length xs → ⊥) → slice_get xs k ≡ Some x
at_front xs y x k at other =
    let within = slice_get_within (xs ++ y ∷ []) k x at in
    let all = length_push xs y in
    let less : k < length xs = omega arith in
    slice_get-get_or xs k x less ∙ ap Some (sym (get_or_append_left xs (y ∷ []) x k less) ∙ get_or_from_slice_get (xs ++ y ∷ []) k x x at)

-- what is picked comes from an element
pub picked_from : {X Y : Type 0} (h : X → Option Y) (xs : List X) (y : Y) → Contains (filter_map h xs) y → (x : X) × Contains xs x × (h x ≡ Some y)
picked_from h xs y has = let found = member_picked h xs y (member_contained (filter_map h xs) y has) in (found.0, contained_member xs found.0 found.1, found.2)

pub picked_to : {X Y : Type 0} (h : X → Option Y) (xs : List X) (x : X) (y : Y) → Contains xs x → h x ≡ Some y → Contains (filter_map h xs) y
picked_to h xs x y has is = contained_member (filter_map h xs) y (picked_member h xs x y (member_contained xs x has) is)

-- an element of a permuted list is one of the list
pub moved_from : {X : Type 0} (xs ys : List X) (x : X) → IsPermutation xs ys → Contains ys x → Contains xs x
moved_from xs ys x moved has = Contains-permutation ys xs x (IsPermutation-sym xs ys moved) has

-- ---- lists in order

-- a later item has no lesser rank
pub in_order_at : {X : Type 0} (rank : X → ℕ) (xs : List X) (i j : ℕ) (x y : X) → IsNonDecreasingBy rank xs → i ≤ j → slice_get xs i ≡ Some x → slice_get xs j ≡ Some y → rank x ≤ rank y
in_order_at rank xs i j x y sorted le one other =
    subst (λ b. rank x ≤ rank b) (get_or_from_slice_get xs j y x other) (subst (λ a. rank a ≤ rank (get_or xs j x)) (get_or_from_slice_get xs i x x one) (sorted i j x le (slice_get_within xs j y other)))

not_leb : (a b : ℕ) → leb a b ≡ false → b < a
not_leb a b h = grind (arith, nat_tests)

-- where a binary search parts the items
pub split_from_point : {X : Type 0} (rank : X → ℕ) (xs : List X) (limit i : ℕ) → i ≤ length xs → AllWithin (λ y. leb (rank y) limit ≡ true) xs 0 i → AllWithin (λ y. leb (rank y) limit ≡ false) xs i (length xs) → IsSplit rank xs limit i
split_from_point rank xs limit i le low high = record {
  bound = le;
  low = λ k x less at. leb-true (rank x) limit (subst (λ y. leb (rank y) limit ≡ true) (get_or_from_slice_get xs k x x at) (low k x (omega arith) less));
  high = λ k x more at. not_leb (rank x) limit (subst (λ y. leb (rank y) limit ≡ false) (get_or_from_slice_get xs k x x at) (high k x more (slice_get_within xs k x at)));
}

not_ltb : (a b : ℕ) → ltb a b ≡ false → b ≤ a
not_ltb a b h = grind (arith, nat_tests)

pub split_below_point : {X : Type 0} (rank : X → ℕ) (xs : List X) (limit i : ℕ) → i ≤ length xs → AllWithin (λ y. ltb (rank y) limit ≡ true) xs 0 i → AllWithin (λ y. ltb (rank y) limit ≡ false) xs i (length xs) → IsSplitBelow rank xs limit i
split_below_point rank xs limit i le low high = record {
  bound = le;
  low = λ k x less at. ltb-true (rank x) limit (subst (λ y. ltb (rank y) limit ≡ true) (get_or_from_slice_get xs k x x at) (low k x (omega arith) less));
  high = λ k x more at. not_ltb (rank x) limit (subst (λ y. ltb (rank y) limit ≡ false) (get_or_from_slice_get xs k x x at) (high k x more (slice_get_within xs k x at)));
}
