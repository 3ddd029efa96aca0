-- A walk over records, one step at a time.
use Rattle.std.proofs.Common.{◌≡◌, ℕ, zero, suc, ◌+◌, ◌≤◌, length, arith, List, [], ◌∷◌, drop, Option, Some, None, true, false, refl, sym, ap, ◌∙◌, slice_get}
use Rattle.std.specs.Prelude.{MatchOption, is_some}
use Rattle.std.specs.Option.{option_map}
use Rattle.std.proofs.lemmas.List.{drop-drop, length-drop}
use Rattle.record_pages.specs.Recs.{Rec}
use Rattle.record_pages.specs.declared.record_ref.RecordRef.{RecordRef}
use Rattle.record_pages.specs.Lent.{record_shown}

at_front : (xs : List Rec) (n : ℕ) → slice_get xs n ≡ slice_get (drop n xs) 0
at_front xs zero = refl
at_front [] (suc n) = refl
at_front (x ∷ xs) (suc n) = at_front xs n

-- what a step of the walk gives
abbrev Steps : List Rec → Option RecordRef → List Rec → Type 0
Steps old o new = MatchOption o ((old ≡ []) × (new ≡ [])) (λ x. old ≡ record_shown x ∷ new)

pub step_gives : (all old new : List Rec) (n : ℕ) (o : Option RecordRef) → old ≡ drop n all → Steps old o new → option_map record_shown o ≡ slice_get all n
step_gives all old new n None at h = sym (at_front all n ∙ ap (λ (xs : List Rec). slice_get xs 0) (sym at ∙ h.0))
step_gives all old new n (Some x) at h = sym (at_front all n ∙ ap (λ (xs : List Rec). slice_get xs 0) (sym at ∙ h))

pub step_ends : (all old new : List Rec) (n m : ℕ) (o : Option RecordRef) → old ≡ drop n all → Steps old o new → is_some o ≡ false → n ≤ m → None ≡ slice_get all m
step_ends all old new n m None at h e le =
    let past : length all ≤ n = omega (arith, length-drop n all, ap length (sym at ∙ h.0)) in
    sym (get_past all m (omega (arith, past, le)))
  where
    get_past : (xs : List Rec) (m : ℕ) → length xs ≤ m → slice_get xs m ≡ None
    get_past [] m le = refl
    get_past (x ∷ xs) zero le = absurd (omega (arith, le))
    get_past (x ∷ xs) (suc m) le = get_past xs m (omega (arith, le))
step_ends all old new n m (Some x) at h e le = absurd cc

pub step_goes : (all old new : List Rec) (n : ℕ) (o : Option RecordRef) → old ≡ drop n all → Steps old o new → is_some o ≡ true → new ≡ drop (n + 1) all
step_goes all old new n None at h e = absurd cc
step_goes all old new n (Some x) at h e = ap (drop 1) (sym h ∙ at) ∙ drop-drop 1 n all
