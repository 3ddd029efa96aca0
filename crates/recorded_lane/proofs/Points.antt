-- The last call of a record: it has the greatest point.
use Rattle.std.proofs.Common.{◌≡◌, ◌<◌, ◌≤◌, ◌↔◌, ℕ, ◌-◌, List, [], ◌∷◌, length, get_or, eqb, Option, Some, refl, sym, ap, subst, inl, inr, arith}
use Rattle.std.specs.Prelude.{IsTrue, All, AllPairs, slice_get}
use Rattle.std.specs.Option.{option_map_or}
use Rattle.std.proofs.lemmas.Bool.{cases_eq, eqb-true}
use Rattle.std.proofs.lemmas.Option.{get_or_from_slice_get}
use Rattle.recorded_lane.specs.declared.noted.Noted.{Noted}
use Rattle.recorded_lane.specs.Lane.{last_point}

pub last_greatest : (calls : List Noted) (n : Noted) → AllPairs (λ (a b : Noted). a.point < b.point) calls → slice_get calls (length calls - 1) ≡ Some n → All (λ (m : Noted). m.point ≤ n.point) calls
last_greatest calls n rise last = λ k d within.
    let end = length calls - 1 in
    let is : get_or calls end d ≡ n = get_or_from_slice_get calls end n d last in
    elim (cases_eq k end) [
      | inl same ↦
          let here : get_or calls k d ≡ n = subst (λ i. get_or calls i d ≡ n) (let back : end ≡ k = omega arith in back) is in
          let e = ap (λ (m : Noted). m.point) here in
          omega (arith, e)
      | inr other ↦
          let less = rise k end d (omega arith) (omega arith) in
          let e = ap (λ (m : Noted). m.point) is in
          omega (arith, less, e)
    ]

-- the last call's place, and its point
pub last_within : (count calls : ℕ) → (count ≡ 0 → ⊥) → count ≡ calls → count - 1 < calls
last_within count calls some is = omega arith

pub last_is : (calls : List Noted) (n : Noted) → slice_get calls (length calls - 1) ≡ Some n → n.point ≡ last_point calls
last_is calls n last = sym (ap (λ (o : Option Noted). option_map_or (λ (m : Noted). m.point) o 0) last)

-- before the first call
pub no_last : (calls : List Noted) → length calls ≡ 0 → 0 ≡ last_point calls
no_last [] none = refl
no_last (c ∷ calls) none = absurd (omega arith)

pub none_greater : (calls : List Noted) → length calls ≡ 0 → All (λ n. n.point ≤ 0) calls
none_greater calls none = λ k d within. absurd (omega (arith, within))

pub none_are : (calls : List Noted) (count : ℕ) → count ≡ length calls → IsTrue (eqb count 0) ↔ (calls ≡ [])
none_are [] count is = rw is ((λ yes. refl), (λ same. refl))
none_are (c ∷ calls) count is = ((λ yes. let none = eqb-true count 0 yes in absurd (omega (arith, none))), (λ same. let none = ap (λ (cs : List Noted). length cs) same in absurd (omega (arith, none))))
