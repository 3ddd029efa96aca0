-- Look-ups in lists, and the calls in a certificate's order.
use Rattle.std.proofs.Common.{◌≡◌, ℕ, ◌+◌, true, eqb, Option, Some, None, List, [], ◌∷◌, ◌++◌, take, get_or, refl, sym, ap, ◌∙◌, subst}
use Rattle.std.specs.Prelude.{IsSomeAnd, slice_get, Contains}
use Rattle.std.specs.List.{list_any}
use Rattle.std.proofs.lemmas.List.{take_more, get_or_default}
use Rattle.std.proofs.lemmas.List.Elements.{filter_map-append}
use Rattle.std.proofs.lemmas.List.Folds.{Any-from_list_any, list_any_at}
use Rattle.std.proofs.lemmas.Option.{slice_get_within, get_or_from_slice_get, none-some}
use borrow.Author.Tests.{eqb-true, eq-eqb}
use Rattle.trace_file.specs.declared.call.Call.{Call}
use Rattle.certificate_checker.specs.Orders.{in_order}
use Rattle.certificate_checker.specs.Faults.{call_at}

-- the value of which a fact holds
pub some_and : {X : Type 0} (o : Option X) (P : X → Type 0) → IsSomeAnd o P → (x : X) × (o ≡ Some x) × P x
some_and None P h = absurd h
some_and (Some x) P h = (x, refl, h)

pub and_some : {X : Type 0} (o : Option X) (P : X → Type 0) (x : X) → o ≡ Some x → P x → IsSomeAnd o P
and_some None P x e p = absurd (none-some x e)
and_some (Some y) P x e p = let same : x ≡ y = cc in subst P same p

-- one more element, by its look-up
pub take_next : {X : Type 0} (xs : List X) (i : ℕ) (x : X) → slice_get xs i ≡ Some x → take (i + 1) xs ≡ take i xs ++ x ∷ []
take_next xs i x e =
    take_more xs i x (slice_get_within xs i x e) ∙ ap (λ y. take i xs ++ y ∷ []) (get_or_from_slice_get xs i x x e)

-- one more call in order
pub in_order_next : (history : List Call) (certificate : List ℕ) (place position : ℕ) (call : Call) → slice_get certificate place ≡ Some position → slice_get history position ≡ Some call → in_order history (take (place + 1) certificate) ≡ in_order history (take place certificate) ++ call ∷ []
in_order_next history certificate place position call p c =
    ap (in_order history) (take_next certificate place position p)
    ∙ filter_map-append (slice_get history) (take place certificate) (position ∷ [])
    ∙ rw c refl

-- a list has an element when the test says so
pub contains_from_any : (xs : List ℕ) (x : ℕ) → list_any (eqb x) xs ≡ true → Contains xs x
contains_from_any xs x h =
    let found = Any-from_list_any (eqb x) xs h in
    let same : x ≡ found.1 = eqb-true x found.1 found.4 in
    (found.0, found.2, get_or_default xs found.0 x found.1 found.2 ∙ found.3 ∙ sym same)

pub any_from_contains : (xs : List ℕ) (x : ℕ) → Contains xs x → list_any (eqb x) xs ≡ true
any_from_contains xs x h = list_any_at (eqb x) xs h.0 x h.1 (eq-eqb x (get_or xs h.0 x) (sym h.2))

pub call_at_is : (history : List Call) (certificate : List ℕ) (place position : ℕ) (call : Call) → slice_get certificate place ≡ Some position → slice_get history position ≡ Some call → call_at history certificate place ≡ Some call
call_at_is history certificate place position call p c = rw p c
