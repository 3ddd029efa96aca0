-- Whether the index has an entry of a kind.
use Rattle.std.proofs.Common.{◌≡◌, Bool, true, false, ◌||◌, cond, List, [], ◌∷◌, filter, refl}
use Rattle.std.specs.Prelude.{is_some, slice_get}
use Rattle.std.specs.List.{list_any}

-- there is a first one of a kind exactly if there is one
pub any-first : {X : Type 0} (p : X → Bool) (xs : List X) → is_some (slice_get (filter p xs) 0) ≡ list_any p xs
any-first p [] = refl
any-first {X} p (x ∷ xs) = step (p x) (any-first p xs)
  where
    step : (b : Bool) → is_some (slice_get (filter p xs) 0) ≡ list_any p xs → is_some (slice_get (cond b (x ∷ filter p xs) (filter p xs)) 0) ≡ (b || list_any p xs)
    step true rest = refl
    step false rest = rest
