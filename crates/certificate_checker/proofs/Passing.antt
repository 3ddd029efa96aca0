-- What the one pass keeps from place to place.
use Rattle.std.proofs.Common.{◌≡◌, ℕ, ◌+◌, ◌<◌, ◌≤◌, max, Bool, true, false, ◌||◌, eqb, ltb, Option, Some, None, List, [], ◌∷◌, length, take, set, get_or, refl, sym, ap, ◌∙◌, subst, arith, inl, inr}
use Rattle.std.specs.Prelude.{IsSomeAnd, slice_get, option_and_then}
use Rattle.std.specs.List.{list_any}
use Rattle.std.proofs.lemmas.Bool.{cases_eq, cases_lt}
use Rattle.std.proofs.lemmas.Bool.Decides.{nat_tests}
use Rattle.std.proofs.lemmas.List.{get_or-set_same, get_or-set_other, length-set}
use Rattle.std.proofs.lemmas.List.Folds.{list_any-append, Any-from_list_any, list_any-from_Any}
use Rattle.std.proofs.lemmas.Option.{slice_get_within, slice_get_past}
use borrow.Author.Tests.{eq-eqb, ltb-true, lt-ltb, le-ltb}
use Rattle.record_pages.specs.declared.timed_value.TimedValue.{TimedValue}
use Rattle.trace_file.specs.declared.act.Act.{Act}
use Rattle.trace_file.specs.declared.act.Act.TheVariants.{Put, Remove, Hit, Miss}
use Rattle.trace_file.specs.declared.call.Call.{Call}
use Rattle.certificate_checker.specs.declared.fault.Fault.{Fault}
use Rattle.certificate_checker.specs.declared.fault.Fault.TheVariants.{BadInterval, WrongCount, NotAPlace, Repeated, OutOfOrder, WrongHit}
use Rattle.certificate_checker.specs.Orders.{in_order}
use Rattle.certificate_checker.specs.Values.{IsAllowed}
use Rattle.certificate_checker.specs.Current.{after_deed, given_at}
use Rattle.certificate_checker.specs.Deeds.{deed_of}
use Rattle.certificate_checker.specs.Faults.{HasFault, IsRight, IsBefore, IsFirstOfPlaces, tested_at, moment, call_at}
use Rattle.certificate_checker.proofs.public_laws.Lookups.{some_and, and_some, take_next, in_order_next, contains_from_any, any_from_contains, call_at_is}
use Rattle.certificate_checker.proofs.public_laws.LatestLemmas.{latest_of, latest_of-push, live_found, live_is}

pub record Passed (history : List Call) (certificate : List ℕ) (place : ℕ) (seen : List Bool) (greatest : ℕ) (value_at : List ℕ → Option TimedValue) : Type 0 where
  -- the places so far are right
  pub right : (q : ℕ) → q < place → IsRight history certificate q
  pub seen_len : length seen ≡ length history
  -- the flags are of the positions so far
  pub seen_is : (p : ℕ) → p < length history → get_or seen p false ≡ list_any (eqb p) (take place certificate)
  -- a number is below the greatest start exactly if it is below some start so far
  pub greatest_is : (t : ℕ) → ltb t greatest ≡ list_any (λ call. ltb t call.start) (in_order history (take place certificate))
  -- the map has the latest values, as it is looked up
  pub values_is : (key : List ℕ) → value_at key ≡ latest_of key (in_order history (take place certificate))

-- a look-up that is known has no more than what holds of its value
pub not_at : {X : Type 0} (o : Option X) (P : X → Type 0) (x : X) → o ≡ Some x → ¬ P x → ¬ IsSomeAnd o P
not_at o P x e n h = let found = some_and o P h in let same : found.0 ≡ x = let e' = found.1 in cc in n (subst P same found.2)

pub nothing_at : {X : Type 0} {o : Option X} (P : X → Type 0) → o ≡ None → ¬ IsSomeAnd o P
nothing_at {X} {o} P none h = let found = some_and o P h in let is = found.1 in cc

-- faults of the places: none is tested before the test t of a place whose earlier tests pass
pub none_before : (history : List Call) (certificate : List ℕ) (place t : ℕ) → ((q : ℕ) → q < place → IsRight history certificate q) → (1 < t → ¬ HasFault history certificate (NotAPlace place)) → (2 < t → ¬ HasFault history certificate (Repeated place)) → (3 < t → ¬ HasFault history certificate (OutOfOrder place)) → (4 < t → ¬ HasFault history certificate (WrongHit place)) → (other : Fault) → (tested_at other).round ≡ 3 → IsBefore (tested_at other) (moment 3 place t) → ¬ HasFault history certificate other
none_before h c place t right one two three four (BadInterval q) round b = absurd (omega arith)
none_before h c place t right one two three four WrongCount round b = absurd (omega arith)
none_before h c place t right one two three four (NotAPlace q) round b = elim b [
  | inl less ↦ absurd (omega arith)
  | inr same ↦
      elim same.1 [
        | inl less ↦ (right q less).is_place
        | inr here ↦ subst (λ p. ¬ HasFault h c (NotAPlace p)) (sym here.0) (one here.1)
      ]
]
none_before h c place t right one two three four (Repeated q) round b = elim b [
  | inl less ↦ absurd (omega arith)
  | inr same ↦
      elim same.1 [
        | inl less ↦ (right q less).not_repeated
        | inr here ↦ subst (λ p. ¬ HasFault h c (Repeated p)) (sym here.0) (two here.1)
      ]
]
none_before h c place t right one two three four (OutOfOrder q) round b = elim b [
  | inl less ↦ absurd (omega arith)
  | inr same ↦
      elim same.1 [
        | inl less ↦ (right q less).in_order
        | inr here ↦ subst (λ p. ¬ HasFault h c (OutOfOrder p)) (sym here.0) (three here.1)
      ]
]
none_before h c place t right one two three four (WrongHit q) round b = elim b [
  | inl less ↦ absurd (omega arith)
  | inr same ↦
      elim same.1 [
        | inl less ↦ (right q less).hits_latest
        | inr here ↦ subst (λ p. ¬ HasFault h c (WrongHit p)) (sym here.0) (four here.1)
      ]
]

-- ---- the four tests at a place

pub no_place : (history : List Call) (certificate : List ℕ) (place position : ℕ) → slice_get certificate place ≡ Some position → length history ≤ position → HasFault history certificate (NotAPlace place)
no_place h c place position p past = and_some _ _ position p past

pub a_place : (history : List Call) (certificate : List ℕ) (place position : ℕ) → slice_get certificate place ≡ Some position → position < length history → ¬ HasFault history certificate (NotAPlace place)
a_place h c place position p within = not_at _ _ position p (λ past. omega arith)

module _ {history : List Call} {certificate : List ℕ} {place : ℕ} {seen : List Bool} {greatest : ℕ} {value_at : List ℕ → Option TimedValue} (passed : Passed history certificate place seen greatest value_at) where
  pub repeated : (position : ℕ) → slice_get certificate place ≡ Some position → position < length history → get_or seen position false ≡ true → HasFault history certificate (Repeated place)
  repeated position p within flag =
      and_some _ _ position p (contains_from_any _ position (sym (passed.seen_is position within) ∙ flag))

  pub not_repeated : (position : ℕ) → slice_get certificate place ≡ Some position → position < length history → get_or seen position false ≡ false → ¬ HasFault history certificate (Repeated place)
  not_repeated position p within unseen =
      not_at _ _ position p (λ has. let yes = any_from_contains _ position has in let is = passed.seen_is position within in cc)

  pub out_of_order : (position : ℕ) (call : Call) → slice_get certificate place ≡ Some position → slice_get history position ≡ Some call → call.end < greatest → HasFault history certificate (OutOfOrder place)
  out_of_order position call p c less =
      let any = Any-from_list_any (λ (e : Call). ltb call.end e.start) _ (sym (passed.greatest_is call.end) ∙ lt-ltb call.end greatest less) in
      and_some _ _ call (call_at_is history certificate place position call p c) (any.0, any.1, any.2, any.3, ltb-true _ _ any.4)

  pub not_out_of_order : (position : ℕ) (call : Call) → slice_get certificate place ≡ Some position → slice_get history position ≡ Some call → greatest ≤ call.end → ¬ HasFault history certificate (OutOfOrder place)
  not_out_of_order position call p c enough =
      not_at _ _ call (call_at_is history certificate place position call p c) (λ any.
      let yes = list_any-from_Any (λ (e : Call). ltb call.end e.start) _ (any.0, any.1, any.2, any.3, lt-ltb _ _ any.4) in
      let is = passed.greatest_is call.end in
      let no = le-ltb call.end greatest enough in
      absurd (cc))

  pub lawful : (position : ℕ) (call : Call) → slice_get certificate place ≡ Some position → slice_get history position ≡ Some call → IsAllowed (value_at call.key) call.act → ¬ HasFault history certificate (WrongHit place)
  lawful position call p c allowed =
      not_at _ _ call (call_at_is history certificate place position call p c) (λ wrong.
      let has : given_at wrong.1 (value_at call.key) ≡ Some wrong.0 = rw wrong.2 at allowed in
      wrong.3 (live_is call.key wrong.0 wrong.1 _ (ap (given_at wrong.1) (sym (passed.values_is call.key)) ∙ has)))

not_allowed : (value : Option TimedValue) (act : Act) → ¬ IsAllowed value act → (hit : List ℕ) × (asked : ℕ) × (act ≡ Hit hit asked) × ¬ (given_at asked value ≡ Some hit)
not_allowed value (Put new expires) refused = absurd (refused tt)
not_allowed value Remove refused = absurd (refused tt)
not_allowed value (Hit hit asked) refused = (hit, asked, refl, refused)
not_allowed value Miss refused = absurd (refused tt)

module _ {history : List Call} {certificate : List ℕ} {place : ℕ} {seen : List Bool} {greatest : ℕ} {value_at : List ℕ → Option TimedValue} (passed : Passed history certificate place seen greatest value_at) where
  pub wrong_hit : (position : ℕ) (call : Call) → slice_get certificate place ≡ Some position → slice_get history position ≡ Some call → ¬ IsAllowed (value_at call.key) call.act → HasFault history certificate (WrongHit place)
  wrong_hit position call p c refused =
      let hit = not_allowed _ call.act refused in
      and_some _ _ call (call_at_is history certificate place position call p c) (
        hit.0,
        hit.1,
        hit.2,
        λ live.
            hit.3 (ap (given_at hit.1) (passed.values_is call.key) ∙ live_found call.key hit.0 hit.1 _ live),
      )

-- ---- the pass begins, and goes on

pub starts : (history : List Call) (certificate : List ℕ) (seen : List Bool) (value_at : List ℕ → Option TimedValue) → length seen ≡ length history → ((p : ℕ) → get_or seen p false ≡ false) → ((key : List ℕ) → value_at key ≡ None) → Passed history certificate 0 seen 0 value_at
starts history certificate seen value_at len none empty = record {
  right = λ q less. absurd (omega arith);
  seen_len = len;
  seen_is = λ p within. none p;
  greatest_is = λ t. le-ltb t 0 (omega arith);
  values_is = empty;
}

-- a number is below the greater of two exactly if it is below one of them
below_max : (t a b : ℕ) → ltb t (max a b) ≡ (ltb t a || ltb t b)
below_max t a b = grind (arith, nat_tests)

or_false : (b : Bool) → (b || false) ≡ b
or_false true = refl
or_false false = refl

or_true : (b : Bool) → (b || true) ≡ true
or_true true = refl
or_true false = refl

pub goes_on : (history : List Call) (certificate : List ℕ) (place position : ℕ) (call : Call) (seen : List Bool) (greatest : ℕ) (value_at after : List ℕ → Option TimedValue) → Passed history certificate place seen greatest value_at → slice_get certificate place ≡ Some position → slice_get history position ≡ Some call → get_or seen position false ≡ false → greatest ≤ call.end → IsAllowed (value_at call.key) call.act → ((key : List ℕ) → after key ≡ after_deed key (value_at key) (deed_of call)) → Passed history certificate (place + 1) (set seen position true) (max greatest call.start) after
goes_on history certificate place position call seen greatest value_at after passed p c unseen enough allowed noted =
    let within : position < length history = slice_get_within history position call c in
    let next = in_order_next history certificate place position call p c in
    let here : IsRight history certificate place = record {
      is_place = a_place history certificate place position p within;
      not_repeated = not_repeated passed position p within unseen;
      in_order = not_out_of_order passed position call p c enough;
      hits_latest = lawful passed position call p c allowed;
    } in
    record {
      right = λ q less. elim (cases_eq q place) [ inl same ↦ subst (IsRight history certificate) (sym same) here | inr other ↦ passed.right q (omega arith) ];
      seen_len = length-set seen position true ∙ passed.seen_len;
      seen_is = λ q inside.
          let flags = ap (list_any (eqb q)) (take_next certificate place position p) ∙ list_any-append (eqb q) (take place certificate) (position ∷ []) in
          elim (cases_eq q position) [
            | inl same ↦
                let yes : eqb q position ≡ true = eq-eqb q position same in
                let room : position < length seen = omega (arith, passed.seen_len) in
                let set_here : get_or (set seen position true) q false ≡ true = rw same (get_or-set_same seen position true false room) in
                set_here ∙ sym (flags ∙ rw yes (or_true _))
            | inr other ↦
                let no : eqb q position ≡ false = grind (arith, nat_tests) in
                get_or-set_other seen position q true false other ∙ passed.seen_is q inside ∙ sym (flags ∙ rw no (or_false _))
          ];
      greatest_is = λ t.
          let starts_so_far = ap (list_any (λ (e : Call). ltb t e.start)) next ∙ list_any-append (λ (e : Call). ltb t e.start) (in_order history (take place certificate)) (call ∷ []) in
          below_max t greatest call.start ∙ ap (λ b. b || ltb t call.start) (passed.greatest_is t)
          ∙ sym (starts_so_far ∙ ap (λ b. list_any (λ (e : Call). ltb t e.start) (in_order history (take place certificate)) || b) (or_false (ltb t call.start)));
      values_is = λ key.
          noted key ∙ ap (λ v. after_deed key v (deed_of call)) (passed.values_is key)
          ∙ sym (ap (latest_of key) next ∙ latest_of-push key (in_order history (take place certificate)) call);
    }

-- ---- the pass ends

module _ {history : List Call} {certificate : List ℕ} {place : ℕ} {seen : List Bool} {greatest : ℕ} {value_at : List ℕ → Option TimedValue} (passed : Passed history certificate place seen greatest value_at) where
  pub ends_no_place : (position : ℕ) → slice_get certificate place ≡ Some position → length history ≤ position → IsFirstOfPlaces history certificate (Some (NotAPlace place))
  ends_no_place position p past = (
    no_place history certificate place position p past,
    refl,
    none_before history certificate place 1 passed.right (λ less. absurd (omega arith)) (λ less. absurd (omega arith)) (λ less. absurd (omega arith)) (λ less. absurd (omega arith)),
  )

  pub ends_repeated : (position : ℕ) → slice_get certificate place ≡ Some position → position < length history → get_or seen position false ≡ true → IsFirstOfPlaces history certificate (Some (Repeated place))
  ends_repeated position p within flag = (
    repeated passed position p within flag,
    refl,
    none_before history certificate place 2 passed.right (λ _. a_place history certificate place position p within) (λ less. absurd (omega arith)) (λ less. absurd (omega arith)) (λ less. absurd (omega arith)),
  )

  pub ends_out_of_order : (position : ℕ) (call : Call) → slice_get certificate place ≡ Some position → slice_get history position ≡ Some call → get_or seen position false ≡ false → call.end < greatest → IsFirstOfPlaces history certificate (Some (OutOfOrder place))
  ends_out_of_order position call p c unseen less =
      let within = slice_get_within history position call c in (
        out_of_order passed position call p c less,
        refl,
        none_before history certificate place 3 passed.right (λ _. a_place history certificate place position p within) (λ _. not_repeated passed position p within unseen) (λ less. absurd (omega arith)) (λ less. absurd (omega arith)),
      )

  pub ends_wrong_hit : (position : ℕ) (call : Call) → slice_get certificate place ≡ Some position → slice_get history position ≡ Some call → get_or seen position false ≡ false → greatest ≤ call.end → ¬ IsAllowed (value_at call.key) call.act → IsFirstOfPlaces history certificate (Some (WrongHit place))
  ends_wrong_hit position call p c unseen enough refused =
      let within = slice_get_within history position call c in (
        wrong_hit passed position call p c refused,
        refl,
        none_before history certificate place 4 passed.right (λ _. a_place history certificate place position p within) (λ _. not_repeated passed position p within unseen) (λ _. not_out_of_order passed position call p c enough) (λ less. absurd (omega arith)),
      )

  pub ends_well : length certificate ≤ place → IsFirstOfPlaces history certificate None
  ends_well all = λ q. elim (cases_lt q place) [
    | inl less ↦ passed.right q less
    | inr past ↦
        let none : slice_get certificate q ≡ None = slice_get_past certificate q (omega arith) in
        record {
          is_place = nothing_at _ none;
          not_repeated = nothing_at _ none;
          in_order = nothing_at {o = call_at history certificate q} _ (ap (option_and_then (slice_get history)) none);
          hits_latest = nothing_at {o = call_at history certificate q} _ (ap (option_and_then (slice_get history)) none);
        }
  ]
