-- The hits that can have read no put.
use Rattle.std.proofs.Common.{◌≡◌, ℕ, ◌+◌, ◌<◌, ◌≤◌, ◌⊎◌, ltb, Some, List, [], ◌∷◌, length, refl, sym, ap, ◌∙◌, subst, arith, inl, inr}
use Rattle.std.specs.Prelude.{Contains, IsTrue, slice_get}
use Rattle.std.proofs.lemmas.Bool.{cases_eq, cases_lt}
use Rattle.std.proofs.lemmas.Bool.Decides.{nat_tests}
use Rattle.std.proofs.lemmas.List.{length-map}
use Rattle.std.proofs.lemmas.Option.{slice_get_within, same_Some}
use Rattle.trace_file.specs.declared.call.Call.{Call}
use Rattle.certificate_checker.proofs.public_laws.Lookups.{and_some, some_and}
use Rattle.certificate_finder.specs.declared.call_span.CallSpan.{CallSpan}
use Rattle.certificate_finder.specs.declared.numbered_call.NumberedCall.{NumberedCall}
use Rattle.certificate_finder.specs.declared.owning.Owners.{Owners}
use Rattle.certificate_finder.specs.declared.ranked.Ranked.{Ranked}
use Rattle.certificate_finder.specs.declared.stamp.Stamp.{Stamp}
use Rattle.certificate_finder.specs.declared.stamp.Stamp.TheVariants.{End}
use Rattle.certificate_finder.specs.Choosing.{IsEarlierBy}
use Rattle.certificate_finder.specs.Finding.{AreForward, IsReversed}
use Rattle.certificate_finder.specs.Lining.{positions_in}
use Rattle.certificate_finder.specs.Lists.{AreAllBelow, GrowsIf}
use Rattle.certificate_finder.specs.Offering.{AreByStamps, stamp_at}
use Rattle.certificate_finder.specs.Owning.{AreKnownOwners, AreSureOwners, IsRefused}
use Rattle.certificate_finder.specs.Reads.{HasNone}
use Rattle.trace_file.specs.Kinds.{kind_of}
use Rattle.certificate_finder.specs.Steps.{AreSteps}
use Rattle.certificate_finder.specs.Turns.{end_at}
use Rattle.certificate_finder.proofs.EndLemmas.{found_at}
use Rattle.certificate_finder.proofs.FindLemmas.{call_at, could_by, could_of, has_several, hit_at, reads_of, step_at}
use Rattle.certificate_finder.proofs.InTurnLemmas.{position_at}
use Rattle.certificate_finder.proofs.Listing.{all_below_if, all_from_at, contains_at, index_of, pair_at, same_at}
use Rattle.certificate_finder.proofs.TryingLemmas.{times_same}

-- ---- calls that end before they start

less_of : (a b : ℕ) → IsTrue (ltb a b) → a < b
less_of a b test = grind (arith, nat_tests)

test_of : (a b : ℕ) → a < b → IsTrue (ltb a b)
test_of a b less = grind (arith, nat_tests)

pub reversed_more : (history : List Call) (upto : ℕ) (call : Call) (old new : List ℕ) → slice_get history upto ≡ Some call → AreAllBelow (IsReversed history) upto old → GrowsIf (ltb call.end call.start) upto old new → AreAllBelow (IsReversed history) (upto + 1) new
reversed_more history upto call old new at had grows = all_below_if (IsReversed history) (ltb call.end call.start) upto old new had grows
    (λ test. and_some (slice_get history upto) (λ c. c.end < c.start) call at (less_of call.end call.start test))
    (λ is.
    let found = some_and (slice_get history upto) (λ c. c.end < c.start) is in
    test_of call.end call.start (subst (λ (c : Call). c.end < c.start) (same_Some found.0 call (sym found.1 ∙ at)) found.2))

-- if there is none, no call does
pub none_reversed : (history : List Call) (reversed : List ℕ) → AreAllBelow (IsReversed history) (length history) reversed → reversed ≡ [] → AreForward history
none_reversed history reversed are none = all_from_at (λ call. call.start ≤ call.end) history (λ p call at. elim (cases_lt call.end call.start) [
  | inl less ↦
      let listed = are.all p (slice_get_within history p call at) (and_some (slice_get history p) (λ c. c.end < c.start) call at less) in
      let in_none = subst (λ ps. Contains ps p) none listed in
      let within : in_none.0 < 0 = in_none.1 in
      absurd (omega arith)
  | inr not ↦ omega arith
])

-- the first one comes before the others
pub first_reversed : (history : List Call) (reversed : List ℕ) (first : ℕ) → AreAllBelow (IsReversed history) (length history) reversed → slice_get reversed 0 ≡ Some first → (other : ℕ) → IsReversed history other → first ≤ other
first_reversed history reversed first are at other is =
    let found = some_and (slice_get history other) (λ c. c.end < c.start) is in
    let k = index_of reversed other (are.all other (slice_get_within history other found.0 found.1) is) in
    elim (cases_eq k.0 0) [
      | inl same ↦ let e = same_at reversed k.0 0 other first same k.1 at in omega arith
      | inr behind ↦ let less = pair_at (λ a b. a < b) reversed 0 k.0 first other are.rise (omega arith) at k.1 in omega arith
    ]

-- ---- hits by their stamps

-- hits by their stamps are none if there are none
pub none_by_stamps : (stamp : Stamp) (steps : List NumberedCall) (positions : List ℕ) (hits : List Ranked) → AreByStamps stamp steps positions hits → length hits ≡ 0 → positions ≡ []
none_by_stamps stamp steps [] hits turned none = refl
none_by_stamps stamp steps (x ∷ xs) hits turned none =
    let listed = (turned.same x).0 (contains_at (x ∷ xs) 0 x refl) in
    let less : listed.0 < length (positions_in hits) = listed.1 in
    let count : length (positions_in hits) ≡ length hits = length-map hits (λ (r : Ranked). r.position) in
    absurd (omega arith)

-- the first of them is of those, and each other one comes after it
pub first_is : (stamp : Stamp) (steps : List NumberedCall) (positions : List ℕ) (hits : List Ranked) (first : Ranked) → AreByStamps stamp steps positions hits → slice_get hits 0 ≡ Some first → Contains positions first.position
first_is stamp steps positions hits first turned at = (turned.same first.position).1 (contains_at (positions_in hits) 0 first.position (position_at hits 0 first at))

pub first_of : (stamp : Stamp) (steps : List NumberedCall) (positions : List ℕ) (hits : List Ranked) (first : Ranked) → AreByStamps stamp steps positions hits → slice_get hits 0 ≡ Some first → (other : ℕ) → Contains positions other → (other ≡ first.position) ⊎ IsEarlierBy (stamp_at stamp steps) first.position other
first_of stamp steps positions hits first turned at other has =
    let k = index_of (positions_in hits) other ((turned.same other).0 has) in
    let zero = position_at hits 0 first at in
    elim (cases_eq k.0 0) [
      | inl same ↦ inl (same_at (positions_in hits) k.0 0 other first.position same k.1 zero)
      | inr behind ↦ inr (pair_at (IsEarlierBy (stamp_at stamp steps)) (positions_in hits) 0 k.0 first.position other turned.order (omega arith) zero k.1)
    ]

module _ (history : List Call) (steps : List NumberedCall) (are : AreSteps history steps) where
  -- a hit that can have read no put, in numbers and back
  pub refused_of : (hit : ℕ) → HasNone history hit → IsRefused steps hit
  refused_of hit none =
      let s = step_at history steps are hit none.call none.at in
      let kind = s.2.kind ∙ ap kind_of none.is in
      record {
        step = s.0;
        at = s.1;
        kind = kind;
        none = λ p put at may live. none.none p (could_by history steps are hit p s.0 put s.1 at kind (record { may = may; live = live }));
      }

  pub has_none : (hit : ℕ) → IsRefused steps hit → HasNone history hit
  has_none hit is =
      let c = call_at history steps are hit is.step is.at in
      let v = hit_at history steps are hit c.0 is.step c.2 is.kind in
      record {
        call = c.0;
        value = v.0;
        moment = v.1;
        at = c.1;
        is = v.2;
        none = λ put could.
            let p = step_at history steps are put could.stands.has.put_call could.stands.has.put_at in
            let reads = reads_of history steps are hit put is.step p.0 is.at p.1 could in
            is.none put p.0 p.1 reads.may reads.live;
      }

  ends_same : (p : ℕ) → stamp_at End steps p ≡ end_at history p
  ends_same p = ap (λ (x : CallSpan). x.end) (times_same history steps are p)

  pub ends_earlier : (one other : ℕ) → IsEarlierBy (stamp_at End steps) one other → IsEarlierBy (end_at history) one other
  ends_earlier one other before =
      let a = ends_same one in
      let b = ends_same other in
      elim before [
        | inl less ↦ inl (omega arith)
        | inr same ↦ inr (sym a ∙ same.0 ∙ b, same.1)
      ]

  -- of the hits that can have read no put the first one by its end
  pub told_first : (owners : Owners) (hits : List Ranked) (first : Ranked) → AreKnownOwners steps (length steps) owners → AreByStamps End steps owners.wrong.items hits → slice_get hits 0 ≡ Some first → (other : ℕ) → HasNone history other → (other ≡ first.position) ⊎ IsEarlierBy (end_at history) first.position other
  told_first owners hits first own turned at other none =
      let is = refused_of other none in
      let listed = own.wrong.all other (slice_get_within steps other is.step is.at) is in
      elim (first_of End steps owners.wrong.items hits first turned at other listed) [
        | inl same ↦ inl same
        | inr before ↦ inr (ends_earlier first.position other before)
      ]

  -- if each hit has a sure owner or can have read several puts, it can have read some
  pub some_read : (owners unsure : List ℕ) → AreSureOwners steps (length steps) owners unsure → (hit : ℕ) → ¬ HasNone history hit
  some_read owners unsure own hit none =
      let s = step_at history steps are hit none.call none.at in
      let kind = s.2.kind ∙ ap kind_of none.is in
      let within = slice_get_within steps hit s.0 s.1 in
      let count = own.count in
      let o = found_at owners hit (omega arith) in
      elim (own.owned hit s.0 o.0 s.1 o.1) [
        | inl alone ↦
            let two = has_several history steps are hit (record { step = s.0; at = s.1; kind = kind; several = alone.1 kind }) in
            none.none two.one two.first
        | inr only ↦ none.none o.0 (could_of history steps are hit o.0 s.0 s.1 kind only.1)
      ]
