-- Beginnings of one list.
use Rattle.std.proofs.Common.{◌≡◌, ℕ, ◌+◌, Bool, List, [], ◌∷◌, ◌++◌, length, refl, ap, sym, ◌∙◌, arith, append_assoc, length-append}
use Rattle.std.specs.Prelude.{filter}
use Rattle.std.proofs.lemmas.List.{append-nil}
use Rattle.std.proofs.lemmas.List.Elements.{filter-append}
use mathlib.Core.List.{IsPrefix}

pub prefix_trans : {A : Type 0} (xs ys zs : List A) → IsPrefix xs ys → IsPrefix ys zs → IsPrefix xs zs
prefix_trans xs ys zs p q = (p.0 ++ q.0, sym (append_assoc xs p.0 q.0) ∙ (ap (λ w. w ++ q.0) p.1 ∙ q.1))

pub none_left : {A : Type 0} (n : ℕ) (rest : List A) → n + length rest ≡ n → rest ≡ []
none_left n [] same = refl
none_left n (x ∷ rest) same = absurd (omega (arith, same))

-- if no more pass a test in the whole than in a beginning, the same do
pub same_passed : {A : Type 0} (p : A → Bool) (xs ys : List A) → IsPrefix xs ys → length (filter p ys) ≡ length (filter p xs) → filter p ys ≡ filter p xs
same_passed p xs ys pre same =
    let parts : filter p ys ≡ filter p xs ++ filter p pre.0 = ap (filter p) (sym pre.1) ∙ filter-append p xs pre.0 in
    let lengths : length (filter p xs) + length (filter p pre.0) ≡ length (filter p xs) = sym (length-append (filter p xs) (filter p pre.0)) ∙ (ap length (sym parts) ∙ same) in
    let none : filter p pre.0 ≡ [] = none_left (length (filter p xs)) (filter p pre.0) lengths in
    parts ∙ (ap (λ rest. filter p xs ++ rest) none ∙ append-nil (filter p xs))
