-- What is gathered from items one after the other.
use Rattle.std.proofs.Common.{◌≡◌, ℕ, ◌+◌, ◌<◌, ◌≤◌, List, [], ◌∷◌, ◌++◌, sym, ap, ◌∙◌, length, take, get_or, append-nil}
use Rattle.std.specs.List.{flat_map}
use Rattle.std.proofs.lemmas.Grind.{flat_map-append}
use Rattle.std.proofs.lemmas.List.{take_all, take_more}

-- what one item more gives stands after what the others gave
pub listed_more : {X A : Type 0} (f : X → List A) (xs : List X) (i : ℕ) (d : X) (old new : List A) → i < length xs → old ≡ flat_map f (take i xs) → new ≡ old ++ f (get_or xs i d) → new ≡ flat_map f (take (i + 1) xs)
listed_more f xs i d old new less o n =
    n ∙ ap (λ t. t ++ f (get_or xs i d)) o ∙ sym (ap (flat_map f) (take_more xs i d less) ∙ flat_map-append f (take i xs) (get_or xs i d ∷ []) ∙ ap (λ t. flat_map f (take i xs) ++ t) (append-nil (f (get_or xs i d))))

-- after the last item all was gathered
pub all_listed : {X A : Type 0} (f : X → List A) (xs : List X) (i : ℕ) (all : List A) → length xs ≤ i → all ≡ flat_map f (take i xs) → all ≡ flat_map f xs
all_listed f xs i all over e = e ∙ ap (flat_map f) (take_all i xs over)
