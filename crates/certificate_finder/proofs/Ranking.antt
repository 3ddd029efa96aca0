-- Items in the order of their ranks.
use Rattle.std.proofs.Common.{◌≡◌, ℕ, ◌^◌, ◌<◌, ◌≤◌, true, false, leb, ltb, Some, List, length, get_or, subst, arith}
use Rattle.std.specs.Prelude.{slice_get}
use Rattle.std.specs.List.{AllWithin}
use Rattle.std.specs.List.Sorted.{IsNonDecreasingBy}
use Rattle.std.proofs.lemmas.Bool.{leb-true, ltb-true}
use Rattle.std.proofs.lemmas.Bool.Decides.{nat_tests}
use Rattle.std.proofs.lemmas.Option.{get_or_from_slice_get, slice_get_within}
use Rattle.certificate_finder.specs.Putting.{value_rank}
use Rattle.certificate_finder.specs.Writing.{IsSplit, IsSplitBelow, key_rank}

-- a later item has no lesser rank
pub rank_at : {X : Type 0} (rank : X → ℕ) (xs : List X) (i j : ℕ) (x y : X) → IsNonDecreasingBy rank xs → i ≤ j → slice_get xs i ≡ Some x → slice_get xs j ≡ Some y → rank x ≤ rank y
rank_at rank xs i j x y sorted le one other =
    subst (λ b. rank x ≤ rank b) (get_or_from_slice_get xs j y x other) (subst (λ a. rank a ≤ rank (get_or xs j x)) (get_or_from_slice_get xs i x x one) (sorted i j x le (slice_get_within xs j y other)))

not_leb : (a b : ℕ) → leb a b ≡ false → b < a
not_leb a b h = grind (arith, nat_tests)

-- where a binary search parts the items
pub split_from_point : {X : Type 0} (rank : X → ℕ) (xs : List X) (limit i : ℕ) → i ≤ length xs → AllWithin (λ y. leb (rank y) limit ≡ true) xs 0 i → AllWithin (λ y. leb (rank y) limit ≡ false) xs i (length xs) → IsSplit rank xs limit i
split_from_point rank xs limit i le low high = record {
  bound = le;
  low = λ k x less at. leb-true (rank x) limit (subst (λ y. leb (rank y) limit ≡ true) (get_or_from_slice_get xs k x x at) (low k x (omega arith) less));
  high = λ k x more at. not_leb (rank x) limit (subst (λ y. leb (rank y) limit ≡ false) (get_or_from_slice_get xs k x x at) (high k x more (slice_get_within xs k x at)));
}

not_ltb : (a b : ℕ) → ltb a b ≡ false → b ≤ a
not_ltb a b h = grind (arith, nat_tests)

pub split_below_point : {X : Type 0} (rank : X → ℕ) (xs : List X) (limit i : ℕ) → i ≤ length xs → AllWithin (λ y. ltb (rank y) limit ≡ true) xs 0 i → AllWithin (λ y. ltb (rank y) limit ≡ false) xs i (length xs) → IsSplitBelow rank xs limit i
split_below_point rank xs limit i le low high = record {
  bound = le;
  low = λ k x less at. ltb-true (rank x) limit (subst (λ y. ltb (rank y) limit ≡ true) (get_or_from_slice_get xs k x x at) (low k x (omega arith) less));
  high = λ k x more at. not_ltb (rank x) limit (subst (λ y. ltb (rank y) limit ≡ false) (get_or_from_slice_get xs k x x at) (high k x more (slice_get_within xs k x at)));
}

-- a lesser rank is of no greater key
pub key_le : (k s l t : ℕ) → t < 2 ^ 64 → key_rank k s ≤ key_rank l t → k ≤ l
key_le k s l t small le = omega arith

-- between two ranks of one key and value are only ranks of them
pub squeezed_key : (k v s l w t r : ℕ) → v < 2 ^ 32 → w < 2 ^ 32 → s < 2 ^ 64 → t < 2 ^ 64 → r < 2 ^ 64 → value_rank k v s ≤ value_rank l w t → value_rank l w t ≤ value_rank k v r → l ≡ k
squeezed_key k v s l w t r a b c d e low high = omega arith

pub squeezed_value : (k v s w t r : ℕ) → s < 2 ^ 64 → t < 2 ^ 64 → r < 2 ^ 64 → value_rank k v s ≤ value_rank k w t → value_rank k w t ≤ value_rank k v r → w ≡ v
squeezed_value k v s w t r c d e low high = omega arith
