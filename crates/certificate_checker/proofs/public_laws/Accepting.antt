-- No fault at all is the same as accepted.
use Rattle.std.proofs.Common.{◌≡◌, ◌≢◌, ℕ, ◌<◌, ◌≤◌, Bool, true, false, ◌||◌, eqb, nat_eq, zero, suc, Option, Some, None, List, [], ◌∷◌, ◌++◌, length, take, drop, get_or, refl, sym, ap, ◌∙◌, subst, arith, inl, inr, ◌⊎◌}
use Rattle.std.specs.Prelude.{slice_get, Contains, Any, All, AllPairs, map}
use Rattle.std.specs.List.{list_any, IsDistinct, AllByRecursion}
use Rattle.std.specs.Cmp.Lexicographic.{pointwise, bytes_decides}
use Rattle.std.proofs.lemmas.Bool.{cases_Bool, cases_eq, cases_lt, or_cases, false_from_ne_true}
use Rattle.std.proofs.lemmas.List.{get_or_default, get_or-take, length-take, take_at, map-append}
use Rattle.std.proofs.lemmas.List.Elements.{recursion_from_All, All-contains}
use Rattle.std.proofs.lemmas.Map.Keys.{IsDistinct-from_apart, IsDistinct-cons}
use Rattle.std.proofs.lemmas.Map.Steps.{length-le_from_distinct_below, le-length_from_below}
use Rattle.std.proofs.lemmas.Option.{slice_get_within, get_or_from_slice_get, slice_get-get_or}
use borrow.Author.Tests.{eqb-true}
use Rattle.trace_file.specs.declared.act.Act.TheVariants.{Hit}
use Rattle.trace_file.specs.declared.call.Call.{Call}
use Rattle.certificate_checker.specs.declared.fault.Fault.{Fault}
use Rattle.certificate_checker.specs.declared.fault.Fault.TheVariants.{BadInterval, WrongCount, NotAPlace, Repeated, OutOfOrder, WrongHit}
use Rattle.certificate_checker.specs.Orders.{Precedes, in_order, Agrees}
use Rattle.certificate_checker.specs.Latest.{IsLive, IsLawful}
use Rattle.certificate_checker.specs.Acceptance.{IsAccepted}
use Rattle.certificate_checker.specs.Faults.{HasFault, earlier_calls, call_at}
use Rattle.certificate_checker.proofs.public_laws.Lookups.{some_and, and_some, contains_from_any, any_from_contains}
use Rattle.certificate_checker.proofs.public_laws.LatestLemmas.{live_found, live_is}
use Rattle.certificate_checker.specs.Deeds.{Deed, deed_of}
use Rattle.certificate_checker.specs.Current.{current, given_at}

-- ---- lists

or_none : (a b : Bool) → (a || b) ≡ false → (a ≡ false) × (b ≡ false)
or_none true b h = cc
or_none false b h = (refl, h)

-- a test that no element passes
none_any : {X : Type 0} (p : X → Bool) (xs : List X) → list_any p xs ≡ false → AllByRecursion (λ x. p x ≡ false) xs
none_any p [] h = tt
none_any p (x ∷ xs) h = let both = or_none (p x) (list_any p xs) h in (both.0, none_any p xs both.1)

-- what a look-up within a list finds
pub found_at : {X : Type 0} (xs : List X) (i : ℕ) → i < length xs → (x : X) × (slice_get xs i ≡ Some x)
found_at [] i less = absurd (omega arith)
found_at (x ∷ xs) zero less = (x, refl)
found_at (x ∷ xs) (suc i) less = found_at xs i (omega arith)

-- what holds of each holds of what a look-up finds
all_at : {X : Type 0} (P : X → Type 0) (xs : List X) (i : ℕ) (x : X) → All P xs → slice_get xs i ≡ Some x → P x
all_at P xs i x all found = subst P (get_or_from_slice_get xs i x x found) (all i x (slice_get_within xs i x found))

split_at : {X : Type 0} (xs : List X) (i : ℕ) (x : X) → slice_get xs i ≡ Some x → xs ≡ take i xs ++ x ∷ drop (suc i) xs
split_at [] i x e = cc
split_at (y ∷ xs) zero x e = let same : y ≡ x = cc in ap (λ z. z ∷ xs) same
split_at (y ∷ xs) (suc i) x e = ap (λ zs. y ∷ zs) (split_at xs i x e)

look_up_between : {X : Type 0} (xs ys : List X) (x : X) → slice_get (xs ++ x ∷ ys) (length xs) ≡ Some x
look_up_between [] ys x = refl
look_up_between (y ∷ xs) ys x = look_up_between xs ys x

any_before : {X : Type 0} (P : X → Type 0) (xs : List X) (i j : ℕ) (d : X) → i < j → j < length xs → P (get_or xs i d) → Any P (take j xs)
any_before P xs i j d less within h =
    let x = get_or xs i d in
    (i, x, omega (arith, length-take j xs), get_or-take j xs i x less ∙ get_or_default xs i x d (omega arith), h)

-- ---- positions, each once

-- numbers below n, with none twice
module _ (n : ℕ) (positions : List ℕ) (below : All (λ p. p < n) positions) (once : AllPairs (λ p q. p ≢ q) positions) where
  distinct : IsDistinct eqb positions
  distinct = IsDistinct-from_apart eqb positions (λ i j d less within. false_from_ne_true _ (λ same. once i j d less within (eqb-true _ _ same)))

  member_below : (p : ℕ) → list_any (eqb p) positions ≡ true → p < n
  member_below p h = All-contains (λ q. q < n) positions p below (contains_from_any positions p h)

  at_most : length positions ≤ n
  at_most = length-le_from_distinct_below positions n distinct member_below

  -- if there are n of them, each number below n is one of them
  each_is_there : length positions ≡ n → (p : ℕ) → p < n → Contains positions p
  each_is_there all p less = elim (cases_Bool (list_any (eqb p) positions)) [
    | inl found ↦ contains_from_any positions p found
    | inr missing ↦
        let more : IsDistinct eqb (p ∷ positions) = IsDistinct-cons eqb p positions (none_any (eqb p) positions missing) distinct in
        let in_range : (q : ℕ) → list_any (eqb q) (p ∷ positions) ≡ true → q < n = λ q h. elim (or_cases (eqb q p) (list_any (eqb q) positions) h) [ inl same ↦ let e = eqb-true q p same in omega arith | inr other ↦ member_below q other ] in
        let fewer = length-le_from_distinct_below (p ∷ positions) n more in_range in
        absurd (omega (arith, fewer, all))
  ]

-- ---- the calls in order, place by place

-- each position of the list has a call
abbrev HaveCalls : List Call → List ℕ → Type 0
HaveCalls history positions = AllByRecursion (λ p. p < length history) positions

order_at : (history : List Call) (positions : List ℕ) → HaveCalls history positions → (place : ℕ) → slice_get (in_order history positions) place ≡ call_at history positions place
order_at history [] have place = refl
order_at history (p ∷ ps) have zero = let call = found_at history p have.0 in rw call.1 refl
order_at history (p ∷ ps) have (suc place) =
    let call = found_at history p have.0 in rw call.1 (order_at history ps have.1 place)

order_take : (history : List Call) (positions : List ℕ) → HaveCalls history positions → (place : ℕ) → take place (in_order history positions) ≡ in_order history (take place positions)
order_take history [] have zero = refl
order_take history [] have (suc place) = refl
order_take history (p ∷ ps) have zero = refl
order_take history (p ∷ ps) have (suc place) =
    let call = found_at history p have.0 in rw call.1 (ap (λ calls. call.0 ∷ calls) (order_take history ps have.1 place))

-- ---- whether a value is the latest, live at a moment, can be told

pub told : (key value : List ℕ) (moment : ℕ) (deeds : List Deed) (computed : Option (List ℕ)) → given_at moment (current deeds key) ≡ computed → IsLive deeds key value moment ⊎ ¬ IsLive deeds key value moment
told key value moment deeds None e = inr (λ l. let is = live_found key value moment deeds l in cc)
told key value moment deeds (Some v) e = elim (cases_Bool (pointwise nat_eq v value)) [
  | inl same ↦ inl (live_is key value moment deeds (e ∙ ap Some ((bytes_decides v value).0 same)))
  | inr other ↦
      inr (λ l.
      let is = live_found key value moment deeds l in
      let both : v ≡ value = cc in
      let same = (bytes_decides v value).1 both in
      cc)
]

-- a mapped list that is split comes from a list that is
pub split_map : {X Y : Type 0} (f : X → Y) (xs : List X) (before : List Y) (y : Y) (after : List Y) → map f xs ≡ before ++ y ∷ after → (b : List X) × (x : X) × (a : List X) × (xs ≡ b ++ x ∷ a) × (map f b ≡ before) × (f x ≡ y)
split_map f [] [] y after e = cc
split_map f [] (z ∷ before) y after e = cc
split_map f (x ∷ xs) [] y after e = let same : f x ≡ y = cc in ([], x, xs, refl, refl, same)
split_map f (x ∷ xs) (z ∷ before) y after e =
    let same : f x ≡ z = cc in
    let others : map f xs ≡ before ++ y ∷ after = cc in
    let s = split_map f xs before y after others in
    (x ∷ s.0, s.1, s.2, ap (λ ys. x ∷ ys) s.3, (λ i. same i ∷ s.4 i), s.5)

-- ---- from no fault to accepted

module _ (history : List Call) (certificate : List ℕ) (none : (fault : Fault) → ¬ HasFault history certificate fault) where
  count : length certificate ≡ length history
  count = elim (cases_eq (length certificate) (length history)) [ inl same ↦ same | inr other ↦ absurd (none WrongCount other) ]

  intervals : All (λ call. call.start ≤ call.end) history
  intervals = λ k d within. elim (cases_lt (get_or history k d).end (get_or history k d).start) [
    | inl less ↦ absurd (none (BadInterval k) (and_some _ _ (get_or history k d) (slice_get-get_or history k d within) less))
    | inr enough ↦ enough
  ]

  positions : All (λ p. p < length history) certificate
  positions = λ k d within. elim (cases_lt (get_or certificate k d) (length history)) [
    | inl less ↦ less
    | inr past ↦ absurd (none (NotAPlace k) (and_some _ _ (get_or certificate k d) (slice_get-get_or certificate k d within) past))
  ]

  once : AllPairs (λ p q. p ≢ q) certificate
  once = λ i j d less within same.
      let p = get_or certificate j d in
      let here : Contains (take j certificate) p = (
        i,
        omega (arith, length-take j certificate),
        get_or-take j certificate i p less ∙ get_or_default certificate i p d (omega arith) ∙ same,
      ) in
      none (Repeated j) (and_some _ _ p (slice_get-get_or certificate j d within) here)

  have : HaveCalls history certificate
  have = recursion_from_All _ certificate positions

  agrees : Agrees (in_order history certificate)
  agrees = λ i j d less within precedes.
      let later = get_or (in_order history certificate) j d in
      let at = sym (order_at history certificate have j) ∙ slice_get-get_or (in_order history certificate) j d within in
      let earlier = any_before (λ (e : Call). Precedes later e) (in_order history certificate) i j d less within precedes in
      none (OutOfOrder j) (and_some _ _ later at (subst (Any (λ (e : Call). Precedes later e)) (order_take history certificate have j) earlier))

  -- each hit of a call has its key's latest value, live at its moment
  hits : (before after : List Call) (call : Call) (value : List ℕ) (moment : ℕ) → in_order history certificate ≡ before ++ call ∷ after → call.act ≡ Hit value moment → IsLive (map deed_of before) call.key value moment
  hits before after call value moment split hit = elim (told call.key value moment (map deed_of before) (given_at moment (current (map deed_of before) call.key)) refl) [
    | inl live ↦ live
    | inr stale ↦
        let n = length before in
        let at : call_at history certificate n ≡ Some call = sym (order_at history certificate have n) ∙ ap (λ calls. slice_get calls n) split ∙ look_up_between before after call in
        let so_far : before ≡ earlier_calls history certificate n = sym (sym (order_take history certificate have n) ∙ ap (take n) split ∙ take_at before (call ∷ after) n refl) in
        absurd (none (WrongHit n) (and_some _ _ call at (value, moment, hit, subst (λ calls. ¬ IsLive (map deed_of calls) call.key value moment) so_far stale)))
  ]

  lawful : IsLawful (map deed_of (in_order history certificate))
  lawful = λ before after deed value moment split hit.
      let s = split_map deed_of (in_order history certificate) before deed after split in
      let here = hits s.0 s.2 s.1 value moment s.3 (ap (λ (d : Deed). d.act) s.5 ∙ hit) in
      subst (λ key. IsLive before key value moment) (ap (λ (d : Deed). d.key) s.5) (subst (λ deeds. IsLive deeds s.1.key value moment) s.4 here)

  pub accepted : IsAccepted history certificate
  accepted = record {
    intervals = intervals;
    spelled = record {
      positions = positions;
      each = each_is_there (length history) certificate positions once count;
      once = once;
    };
    agrees = agrees;
    lawful = lawful;
  }

-- ---- from accepted to no fault

module _ (history : List Call) (certificate : List ℕ) (a : IsAccepted history certificate) where
  have_calls : HaveCalls history certificate
  have_calls = recursion_from_All _ certificate a.spelled.positions

  pub no_fault : (fault : Fault) → ¬ HasFault history certificate fault
  no_fault (BadInterval position) h =
      let found = some_and _ _ h in
      let enough = all_at (λ (call : Call). call.start ≤ call.end) history position found.0 a.intervals found.1 in
      let less = found.2 in
      omega (arith, enough, less)
  no_fault WrongCount h =
      let few = at_most (length history) certificate a.spelled.positions a.spelled.once in
      let many = le-length_from_below certificate (length history) (λ q less. any_from_contains certificate q (a.spelled.each q less)) in
      h (omega (arith, few, many))
  no_fault (NotAPlace place) h =
      let found = some_and _ _ h in
      let less = all_at (λ p. p < length history) certificate place found.0 a.spelled.positions found.1 in
      let past = found.2 in
      omega (arith, less, past)
  no_fault (Repeated place) h =
      let found = some_and _ _ h in
      let p = found.0 in
      let within = slice_get_within certificate place p found.1 in
      let k = found.2.0 in
      let before : k < place = omega (arith, found.2.1, length-take place certificate) in
      a.spelled.once k place p before within (sym (get_or-take place certificate k p before) ∙ found.2.2 ∙ sym (get_or_from_slice_get certificate place p p found.1))
  no_fault (OutOfOrder place) h =
      let found = some_and _ _ h in
      let order = in_order history certificate in
      let call = found.0 in
      let at : slice_get order place ≡ Some call = order_at history certificate have_calls place ∙ found.1 in
      let any = subst (Any (λ (e : Call). Precedes call e)) (sym (order_take history certificate have_calls place)) found.2 in
      let k = any.0 in
      let e = any.1 in
      let before : k < place = omega (arith, any.2, length-take place order) in
      let earlier : get_or order k e ≡ e = sym (get_or-take place order k e before) ∙ any.3 in
      let later : get_or order place e ≡ call = get_or_from_slice_get order place call e at in
      let clash = a.agrees k place e before (slice_get_within order place call at) in
      clash (subst (λ (c : Call). Precedes c (get_or order k e)) (sym later) (subst (λ (c : Call). Precedes call c) (sym earlier) any.4))
  no_fault (WrongHit place) h =
      let found = some_and _ _ h in
      let order = in_order history certificate in
      let call = found.0 in
      let at : slice_get order place ≡ Some call = order_at history certificate have_calls place ∙ found.1 in
      let split = ap (map deed_of) (split_at order place call at) ∙ map-append deed_of (take place order) (call ∷ drop (suc place) order) in
      let live = a.lawful (map deed_of (take place order)) (map deed_of (drop (suc place) order)) (deed_of call) found.2.0 found.2.1 split found.2.2 in
      found.2.3 (subst (λ calls. IsLive (map deed_of calls) call.key found.2.0 found.2.1) (order_take history certificate have_calls place) live)
