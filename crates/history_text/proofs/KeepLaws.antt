-- Calls and lines by positions.
use Rattle.std.proofs.Common.{◌≡◌, ◌≤◌, ℕ, suc, zero, Bool, true, false, List, [], ◌∷◌, length, Option, Some, None, is_some, slice_get, refl, sym, ap, ◌∙◌, arith}
use Rattle.std.specs.List.{cons_option, filter_map}

-- at a position both lists have an element, or neither has
alike : {A B : Type 0} (xs : List A) (ys : List B) (at : ℕ) → length xs ≡ length ys → is_some (slice_get xs at) ≡ is_some (slice_get ys at)
alike [] [] at same = refl
alike [] (y ∷ ys) at same = absurd (omega (arith, same))
alike (x ∷ xs) [] at same = absurd (omega (arith, same))
alike (x ∷ xs) (y ∷ ys) zero same = refl
alike (x ∷ xs) (y ∷ ys) (suc at) same = alike xs ys at (omega (arith, same))

-- how many are there with one more, if there is one
abbrev more : Bool → ℕ → ℕ
more true count = suc count
more false count = count

more_of : {A : Type 0} (one : Option A) (others : List A) → length (cons_option one others) ≡ more (is_some one) (length others)
more_of None others = refl
more_of (Some x) others = refl

-- as many lines are kept as calls
pub kept_alike : {A B : Type 0} (xs : List A) (ys : List B) → length xs ≡ length ys → (positions : List ℕ) → length (filter_map (slice_get xs) positions) ≡ length (filter_map (slice_get ys) positions)
kept_alike xs ys same [] = refl
kept_alike xs ys same (at ∷ positions) =
    more_of (slice_get xs at) (filter_map (slice_get xs) positions)
    ∙ ap (λ one. more one (length (filter_map (slice_get xs) positions))) (alike xs ys at same)
    ∙ ap (more (is_some (slice_get ys at))) (kept_alike xs ys same positions)
    ∙ sym (more_of (slice_get ys at) (filter_map (slice_get ys) positions))

-- no element stands after the last
pub none_after : {A : Type 0} (xs : List A) (at : ℕ) → length xs ≤ at → slice_get xs at ≡ None
none_after [] at past = refl
none_after (x ∷ xs) zero past = absurd (omega (arith, past))
none_after (x ∷ xs) (suc at) past = none_after xs at (omega (arith, past))
