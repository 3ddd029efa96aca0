-- Entries by their places, and lowered.
use Rattle.std.proofs.Common.{◌≡◌, ℕ, suc, Bool, true, eqb, List, [], ◌∷◌, length, refl, ap}
use Rattle.std.specs.Prelude.{◌&&◌}
use Rattle.std.proofs.lemmas.Bool.{and_parts, eqb-true}
use Rattle.klog_index.specs.declared.entry.Entry.{Entry}
use Rattle.klog_index.specs.declared.place.Place.{Place}
use Rattle.klog_index.specs.Entries.{with_lowered, is_at, is_in, is_of}

-- a kind that stands for one place
abbrev pub IsOfPlace : (Entry → Bool) → Place → Type 0
IsOfPlace p place = (e : Entry) → p e ≡ true → e.place ≡ place

-- an entry at a place has that place
pub of_place : (place : Place) → IsOfPlace (is_at place) place
of_place place e is =
    let one = and_parts (eqb e.place.segment place.segment && eqb e.place.page place.page) (eqb e.place.slot place.slot) is in
    let two = and_parts (eqb e.place.segment place.segment) (eqb e.place.page place.page) one.0 in
    let a = eqb-true e.place.segment place.segment two.0 in
    let b = eqb-true e.place.page place.page two.1 in
    let c = eqb-true e.place.slot place.slot one.1 in
    λ i. record { segment = a i; page = b i; slot = c i }

pub of_place_in : (set : ℕ) (place : Place) → IsOfPlace (is_in set place) place
of_place_in set place e is = of_place place e (and_parts (is_of set e) (is_at place e) is).1

-- as many are lowered as there were
pub length-with_lowered : (p : Entry → Bool) (es : List Entry) → length (with_lowered p es) ≡ length es
length-with_lowered p [] = refl
length-with_lowered p (e ∷ es) = ap suc (length-with_lowered p es)
