-- Stamped calls in the order of a certificate: each lane's calls stand there as the lane recorded them.
use Rattle.std.proofs.Common.{◌≡◌, ◌≢◌, ℕ, ◌<◌, ◌≤◌, Bool, true, false, cond, eqb, Option, Some, None, List, [], ◌∷◌, ◌++◌, length, refl, sym, ap, ◌∙◌, subst, arith, inl, inr, ◌⊎◌}
use Rattle.std.specs.Prelude.{slice_get, option_map, Contains, map, filter, fold}
use Rattle.std.specs.List.{filter_map, cons_option}
use Rattle.std.proofs.lemmas.Bool.{cases_lt}
use Rattle.std.proofs.lemmas.List.{map-append}
use Rattle.std.proofs.lemmas.List.Elements.{filter-append}
use Rattle.std.proofs.lemmas.Option.{slice_get-map}
use borrow.Author.Tests.{eqb-true, eq-eqb}
use Rattle.record_pages.specs.declared.timed_value.TimedValue.{TimedValue}
use Rattle.trace_file.specs.declared.act.Act.TheVariants.{Hit}
use Rattle.trace_file.specs.declared.call.Call.{Call}
use Rattle.certificate_checker.specs.Deeds.{Deed, deed_of}
use Rattle.certificate_checker.specs.Latest.{IsLive, IsLawful}
use Rattle.certificate_checker.specs.Current.{after_deed, given_at}
use Rattle.certificate_checker.specs.Orders.{Precedes, IsOrder, in_order, Agrees}
use Rattle.certificate_checker.specs.Acceptance.{IsAccepted}
use Rattle.certificate_checker.specs.Lanes.{Stamped, ComesFirst}
use Rattle.certificate_checker.proofs.public_laws.LatestLemmas.{live_found, live_is, deed_kept}
use Rattle.certificate_checker.proofs.public_laws.Accepting.{split_map}
use Rattle.certificate_checker.proofs.public_laws.Listing.{Member, Pairs, member_filter, filter_member, member_picked, picked_member, member_at, place_of, member_contained, member_map, member_left, member_right, member_all, pairs_to, pairs_weaker, pairs_both, pairs_map, pairs_filter, pairs_picked, pairs_at, same_in_order}

-- a stamped call's call, key, deed, and whether it is of a lane
abbrev pub call_in : Stamped → Call
call_in s = s.done.call

abbrev pub key_in : Stamped → List ℕ
key_in s = s.done.call.key

abbrev pub deed_in : Stamped → Deed
deed_in s = deed_of s.done.call

abbrev pub of_lane : ℕ → Stamped → Bool
of_lane lane s = eqb lane s.lane

-- the stamped calls at positions
abbrev pub picked : List Stamped → List ℕ → List Stamped
picked marks positions = filter_map (slice_get marks) positions

-- what each is turned into can be done before or after the picking
pub picked-map : {X Y : Type 0} (f : X → Y) (xs : List X) (positions : List ℕ) → filter_map (slice_get (map f xs)) positions ≡ map f (filter_map (slice_get xs) positions)
picked-map f xs [] = refl
picked-map {X} {Y} f xs (p ∷ ps) =
    elim (slice_get xs p) as (λ o. slice_get xs p ≡ o → filter_map (slice_get (map f xs)) (p ∷ ps) ≡ map f (cons_option o (filter_map (slice_get xs) ps))) [
      | None ↦ λ is. let none : slice_get (map f xs) p ≡ None = slice_get-map f xs p ∙ ap (option_map f) is in rw none (picked-map f xs ps)
      | Some x ↦
          λ is. let some : slice_get (map f xs) p ≡ Some (f x) = slice_get-map f xs p ∙ ap (option_map f) is in rw some (ap (λ ys. f x ∷ ys) (picked-map f xs ps))
    ] refl

-- deeds at other keys do not change a key's value
pub other_keys : (lane : ℕ) (key : List ℕ) (value : Option TimedValue) (marks : List Stamped) → ((s : Stamped) → Member s marks → key_in s ≡ key → lane ≡ s.lane) → fold (after_deed key) value (map deed_in marks) ≡ fold (after_deed key) value (map deed_in (filter (of_lane lane) marks))
other_keys lane key value [] home = refl
other_keys lane key value (s ∷ marks) home =
    elim (of_lane lane s) as (λ b. of_lane lane s ≡ b → fold (after_deed key) value (map deed_in (s ∷ marks)) ≡ fold (after_deed key) value (map deed_in (cond b (s ∷ filter (of_lane lane) marks) (filter (of_lane lane) marks)))) [
      | true ↦ λ test. other_keys lane key (after_deed key value (deed_in s)) marks (λ m k. home m (inr k))
      | false ↦
          λ test.
          let kept : after_deed key value (deed_in s) ≡ value = deed_kept key value (deed_in s) (λ writes. let yes : of_lane lane s ≡ true = eq-eqb lane s.lane (home s (inl refl) writes.0) in cc) in
          ap (λ v. fold (after_deed key) v (map deed_in marks)) kept ∙ other_keys lane key value marks (λ m k. home m (inr k))
    ] refl

-- what is true of stamped calls that come from well recorded lanes
pub record AreRecorded (marks : List Stamped) : Type 0 where
  pub started : (s : Stamped) → Member s marks → s.done.call.start < s.done.point
  pub ended : (s : Stamped) → Member s marks → s.done.point ≤ s.done.call.end
  -- the points of a lane rise
  pub rise : Pairs (λ a b. a.lane ≡ b.lane → a.done.point < b.done.point) marks
  -- a key is in one lane alone
  pub home : (a b : Stamped) → Member a marks → Member b marks → key_in a ≡ key_in b → a.lane ≡ b.lane
  -- each lane is lawful
  pub lawful : (lane : ℕ) → IsLawful (map deed_in (filter (of_lane lane) marks))

-- a list of positions has each position once
module _ (marks : List Stamped) (positions : List ℕ) (each : (p : ℕ) → p < length marks → Contains positions p) where
  pub all_picked : (s : Stamped) → Member s marks → Member s (picked marks positions)
  all_picked s m =
      let place = place_of marks s m in
      picked_member (slice_get marks) positions place.0 s (member_contained positions place.0 (each place.0 place.1)) place.2

pub picked_is : (marks : List Stamped) (positions : List ℕ) (s : Stamped) → Member s (picked marks positions) → Member s marks
picked_is marks positions s m = let found = member_picked (slice_get marks) positions s m in member_at marks found.0 s found.2

-- a number is below another, or equal, or above
pub cases_before : (p q : ℕ) → (p < q) ⊎ ((p ≡ q) ⊎ (q < p))
cases_before p q = elim (cases_lt p q) [
  | inl less ↦ inl less
  | inr enough ↦ elim (cases_lt q p) [ inl more ↦ inr (inr more) | inr not ↦ inr (inl (omega arith)) ]
]

map_map : (marks : List Stamped) → map deed_in marks ≡ map deed_of (map call_in marks)
map_map [] = refl
map_map (s ∷ marks) = ap (λ ds. deed_in s ∷ ds) (map_map marks)

-- two positions of one lane have different points
pub points_differ : (marks : List Stamped) → Pairs (λ a b. a.lane ≡ b.lane → a.done.point < b.done.point) marks → (p q : ℕ) (a b : Stamped) → slice_get marks p ≡ Some a → slice_get marks q ≡ Some b → p ≢ q → a.lane ≡ b.lane → a.done.point ≢ b.done.point
points_differ marks rise p q a b at_p at_q apart lane same = elim (cases_before p q) [
  | inl less ↦ let up = pairs_at _ marks p q a b less at_p at_q rise lane in omega (arith, up, same)
  | inr other ↦ elim other [
    | inl e ↦ apart e
    | inr less ↦ let up = pairs_at _ marks q p b a less at_q at_p rise (sym lane) in omega (arith, up, same)
  ]
]

module _ (marks : List Stamped) (positions : List ℕ) (r : AreRecorded marks) (each : (p : ℕ) → p < length marks → Contains positions p) (once : Pairs (λ p q. p ≢ q) positions) (by_point : Pairs (λ earlier later. ¬ ComesFirst later earlier) (picked marks positions)) where
  -- points never fall
  not_below : (a b : Stamped) → ¬ ComesFirst b a → a.done.point ≤ b.done.point
  not_below a b not = elim (cases_lt b.done.point a.done.point) [ inl less ↦ absurd (not (inl less)) | inr enough ↦ enough ]

  -- the points of a lane rise in this order too
  rises : Pairs (λ a b. a.lane ≡ b.lane → a.done.point < b.done.point) (picked marks positions)
  rises =
      let differ : Pairs (λ a b. a.lane ≡ b.lane → a.done.point ≢ b.done.point) (picked marks positions) = pairs_picked (slice_get marks) (λ p q. p ≢ q) (λ a b. a.lane ≡ b.lane → a.done.point ≢ b.done.point) positions (λ p q a b at_p at_q apart. points_differ marks r.rise p q a b at_p at_q apart) once in
      pairs_weaker (λ a b. (¬ ComesFirst b a) × (a.lane ≡ b.lane → a.done.point ≢ b.done.point)) (λ a b. a.lane ≡ b.lane → a.done.point < b.done.point) (picked marks positions) (λ a b l m both lane. let le = not_below a b both.0 in let ne = both.1 lane in omega (arith, le, ne)) (pairs_both _ _ (picked marks positions) by_point differ)

  -- the calls of a lane stand in the order of its record
  lane_order : (lane : ℕ) → filter (of_lane lane) (picked marks positions) ≡ filter (of_lane lane) marks
  lane_order lane =
      let up : (xs : List Stamped) → Pairs (λ a b. a.lane ≡ b.lane → a.done.point < b.done.point) xs → Pairs (λ a b. a.done.point < b.done.point) (filter (of_lane lane) xs) = λ xs pairs. pairs_weaker (λ a b. a.lane ≡ b.lane → a.done.point < b.done.point) (λ a b. a.done.point < b.done.point) (filter (of_lane lane) xs) (λ a b l m less. less (sym (eqb-true lane a.lane (member_filter (of_lane lane) xs a l).1) ∙ eqb-true lane b.lane (member_filter (of_lane lane) xs b m).1)) (pairs_filter (of_lane lane) _ xs pairs) in
      same_in_order (λ a b. a.done.point < b.done.point) (λ a b less more. omega (arith, less, more)) (filter (of_lane lane) (picked marks positions)) (filter (of_lane lane) marks) (up (picked marks positions) rises) (up marks r.rise) (λ s m. let found = member_filter (of_lane lane) (picked marks positions) s m in filter_member (of_lane lane) marks s (picked_is marks positions s found.0) found.1) (λ s m. let found = member_filter (of_lane lane) marks s m in filter_member (of_lane lane) (picked marks positions) s (all_picked marks positions each s found.0) found.1)

  -- each hit of the order has its key's latest value, live at its moment
  hits : (before after : List Stamped) (s : Stamped) (value : List ℕ) (moment : ℕ) → picked marks positions ≡ before ++ s ∷ after → s.done.call.act ≡ Hit value moment → IsLive (map deed_in before) (key_in s) value moment
  hits before after s value moment split hit =
      let mine = of_lane s.lane in
      let here : Member s (picked marks positions) = subst (Member s) (sym split) (member_right before (s ∷ after) s (inl refl)) in
      let earlier : (m : Stamped) → Member m before → Member m marks = λ m k. picked_is marks positions m (subst (Member m) (sym split) (member_left before (s ∷ after) m k)) in
      let yes : mine s ≡ true = eq-eqb s.lane s.lane refl in
      let lane_split : filter mine marks ≡ filter mine before ++ s ∷ filter mine after = sym (lane_order s.lane) ∙ ap (filter mine) split ∙ filter-append mine before (s ∷ after) ∙ rw yes refl in
      let deeds : map deed_in (filter mine marks) ≡ map deed_in (filter mine before) ++ deed_in s ∷ map deed_in (filter mine after) = ap (map deed_in) lane_split ∙ map-append deed_in (filter mine before) (s ∷ filter mine after) in
      let live = r.lawful s.lane (map deed_in (filter mine before)) (map deed_in (filter mine after)) (deed_in s) value moment deeds hit in
      let same = other_keys s.lane (key_in s) None before (λ m k is. sym (r.home m s (earlier m k) (picked_is marks positions s here) is)) in
      live_is (key_in s) value moment (map deed_in before) (ap (given_at moment) same ∙ live_found (key_in s) value moment (map deed_in (filter mine before)) live)

  pub laid_lawful : IsLawful (map deed_in (picked marks positions))
  laid_lawful = λ before after deed value moment split hit.
      let s = split_map deed_in (picked marks positions) before deed after split in
      let here = hits s.0 s.2 s.1 value moment s.3 (ap (λ (d : Deed). d.act) s.5 ∙ hit) in
      subst (λ key. IsLive before key value moment) (ap (λ (d : Deed). d.key) s.5) (subst (λ deeds. IsLive deeds (key_in s.1) value moment) s.4 here)

  pub laid_agrees : Pairs (λ a b. ¬ Precedes (call_in b) (call_in a)) (picked marks positions)
  laid_agrees = pairs_weaker (λ a b. ¬ ComesFirst b a) (λ a b. ¬ Precedes (call_in b) (call_in a)) (picked marks positions) (λ a b l m not precedes.
      let le = not_below a b not in
      let from = r.started a (picked_is marks positions a l) in
      let till = r.ended b (picked_is marks positions b m) in
      omega (arith, le, from, till, precedes)) by_point

  pub laid_accepted : IsOrder (map call_in marks) positions → IsAccepted (map call_in marks) positions
  laid_accepted order =
      let calls : in_order (map call_in marks) positions ≡ map call_in (picked marks positions) = picked-map call_in marks positions in
      record {
        intervals = member_all (λ (c : Call). c.start ≤ c.end) (map call_in marks) (λ c m. let found = member_map call_in marks c m in let from = r.started found.0 found.1 in let till = r.ended found.0 found.1 in subst (λ (c : Call). c.start ≤ c.end) (sym found.2) (omega (arith, from, till)));
        spelled = order;
        agrees = subst Agrees (sym calls) (pairs_to (λ a b. ¬ Precedes b a) (map call_in (picked marks positions)) (pairs_map call_in (λ a b. ¬ Precedes b a) (picked marks positions) laid_agrees));
        lawful = subst (λ cs. IsLawful (map deed_of cs)) (sym calls) (subst IsLawful (map_map (picked marks positions)) laid_lawful);
      }
