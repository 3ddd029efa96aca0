-- The stamped calls of well recorded lanes, and what their layout is.
use Rattle.std.proofs.Common.{◌≡◌, ◌≢◌, ℕ, ◌+◌, ◌<◌, ◌≤◌, suc, Bool, true, false, Some, List, [], ◌∷◌, ◌++◌, length, refl, sym, ap, ◌∙◌, subst, arith, inl, inr, append-nil}
use Rattle.std.specs.Prelude.{slice_get, All, AllPairs, Contains, map, filter}
use Rattle.std.specs.List.{flat_map}
use Rattle.std.proofs.lemmas.Bool.{cases_eq}
use Rattle.std.proofs.lemmas.Bool.Decides.{nat_tests}
use Rattle.std.proofs.lemmas.List.{map-append, length-map}
use Rattle.std.proofs.lemmas.List.Elements.{filter-append}
use borrow.Author.Tests.{eq-eqb}
use Rattle.trace_file.specs.declared.call.Call.{Call}
use Rattle.certificate_checker.specs.Latest.{IsLawful}
use Rattle.certificate_checker.specs.Orders.{IsOrder}
use Rattle.certificate_checker.specs.Acceptance.{IsAccepted}
use Rattle.certificate_checker.specs.Lanes.{Done, calls_of, deeds_done, PointsRise, IsLane, AreApart, Stamped, stamp, stamped_from, stamped, IsLaidOut}
use Rattle.certificate_checker.proofs.public_laws.Listing.{Member, Pairs, member_either, member_map, member_at, all_member, pairs_from, pairs_append, pairs_map, pairs_at, pairs_weaker}
use Rattle.certificate_checker.proofs.public_laws.Laying.{call_in, deed_in, of_lane, picked, AreRecorded, laid_accepted, cases_before}

-- a stamped call is of the lane that its number names
pub record Comes (number : ℕ) (lanes : List (List Done)) (s : Stamped) : Type 0 where
  pub place : ℕ
  pub lane : List Done
  pub found : slice_get lanes place ≡ Some lane
  pub done : Member s.done lane
  pub numbered : s.lane ≡ number + place

pub comes_from : (number : ℕ) (lanes : List (List Done)) (s : Stamped) → Member s (stamped_from number lanes) → Comes number lanes s
comes_from number [] s m = absurd m
comes_from number (lane ∷ lanes) s m = elim (member_either (map (stamp number) lane) (stamped_from (suc number) lanes) s m) [
  | inl here ↦
      let d = member_map (stamp number) lane s here in
      record {
        place = 0;
        lane = lane;
        found = refl;
        done = subst (λ (x : Done). Member x lane) (sym (ap (λ (x : Stamped). x.done) d.2)) d.1;
        numbered = let is : s.lane ≡ number = ap (λ (x : Stamped). x.lane) d.2 in omega (arith, is);
      }
  | inr later ↦
      let c = comes_from (suc number) lanes s later in
      record {
        place = suc c.place;
        lane = c.lane;
        found = c.found;
        done = c.done;
        numbered = let is = c.numbered in omega (arith, is);
      }
]

calls_stamped_lane : (number : ℕ) (lane : List Done) → map call_in (map (stamp number) lane) ≡ calls_of lane
calls_stamped_lane number [] = refl
calls_stamped_lane number (d ∷ lane) = ap (λ cs. d.call ∷ cs) (calls_stamped_lane number lane)

-- the calls lane by lane
pub calls_stamped : (number : ℕ) (lanes : List (List Done)) → map call_in (stamped_from number lanes) ≡ flat_map calls_of lanes
calls_stamped number [] = refl
calls_stamped number (lane ∷ lanes) =
    map-append call_in (map (stamp number) lane) (stamped_from (suc number) lanes)
    ∙ (λ i. calls_stamped_lane number lane i ++ calls_stamped (suc number) lanes i)

deeds_stamped : (number : ℕ) (lane : List Done) → map deed_in (map (stamp number) lane) ≡ deeds_done lane
deeds_stamped number [] = refl
deeds_stamped number (d ∷ lane) = ap (λ ds. deed_in (stamp number d) ∷ ds) (deeds_stamped number lane)

-- the points of each lane rise
pub rise_stamped : (number : ℕ) (lanes : List (List Done)) → All PointsRise lanes → Pairs (λ a b. a.lane ≡ b.lane → a.done.point < b.done.point) (stamped_from number lanes)
rise_stamped number [] rise = tt
rise_stamped number (lane ∷ lanes) rise =
    pairs_append (λ a b. a.lane ≡ b.lane → a.done.point < b.done.point) (map (stamp number) lane) (stamped_from (suc number) lanes)
    (pairs_map (stamp number) (λ a b. a.lane ≡ b.lane → a.done.point < b.done.point) lane (pairs_weaker (λ a b. a.point < b.point) (λ a b. number ≡ number → a.point < b.point) lane (λ a b l m less same. less) (pairs_from (λ a b. a.point < b.point) lane (rise 0 lane (omega arith)))))
    (rise_stamped (suc number) lanes (λ k d less. rise (suc k) d (omega arith)))
    (λ a b l m same.
    let one = ap (λ (x : Stamped). x.lane) (member_map (stamp number) lane a l).2 in
    let other = (comes_from (suc number) lanes b m).numbered in
    absurd (omega (arith, one, other, same)))

-- ---- the calls of one lane

filter_none : {X : Type 0} (p : X → Bool) (xs : List X) → ((x : X) → Member x xs → p x ≡ false) → filter p xs ≡ []
filter_none p [] none = refl
filter_none p (x ∷ xs) none = rw (none x (inl refl)) (filter_none p xs (λ y m. none y (inr m)))

filter_all : {X : Type 0} (p : X → Bool) (xs : List X) → ((x : X) → Member x xs → p x ≡ true) → filter p xs ≡ xs
filter_all p [] all = refl
filter_all p (x ∷ xs) all = rw (all x (inl refl)) (ap (λ ys. x ∷ ys) (filter_all p xs (λ y m. all y (inr m))))

nothing_splits : {X : Type 0} (before after : List X) (x : X) → [] ≡ before ++ x ∷ after → ⊥
nothing_splits [] after x e = cc
nothing_splits (y ∷ before) after x e = cc

lawful_nil : IsLawful []
lawful_nil = λ before after deed value moment split hit. absurd (nothing_splits before after deed split)

-- the calls of a lane's number are that lane's, and its deeds are lawful
pub lawful_stamped : (number : ℕ) (lanes : List (List Done)) (lane : ℕ) → All IsLane lanes → IsLawful (map deed_in (filter (of_lane lane) (stamped_from number lanes)))
lawful_stamped number [] lane sound = lawful_nil
lawful_stamped number (first ∷ lanes) lane sound =
    let own = map (stamp number) first in
    let others = stamped_from (suc number) lanes in
    let split = filter-append (of_lane lane) own others in
    let number_of : (s : Stamped) → Member s own → s.lane ≡ number = λ s m. ap (λ (x : Stamped). x.lane) (member_map (stamp number) first s m).2 in
    elim (cases_eq lane number) [
      | inl same ↦
          let mine = filter_all (of_lane lane) own (λ s m. eq-eqb lane s.lane (same ∙ sym (number_of s m))) in
          let not_theirs = filter_none (of_lane lane) others (λ s m. let is = (comes_from (suc number) lanes s m).numbered in let ne : lane ≢ s.lane = λ e. omega (arith, is, same, e) in grind (arith, nat_tests)) in
          let all : filter (of_lane lane) (own ++ others) ≡ own = split ∙ (λ i. mine i ++ not_theirs i) ∙ append-nil own in
          subst IsLawful (sym (ap (map deed_in) all ∙ deeds_stamped number first)) (sound 0 first (omega arith)).lawful
      | inr other ↦
          let not_mine = filter_none (of_lane lane) own (λ s m. let is = number_of s m in let ne : lane ≢ s.lane = λ e. other (e ∙ is) in grind (arith, nat_tests)) in
          let all : filter (of_lane lane) (own ++ others) ≡ filter (of_lane lane) others = split ∙ ap (λ xs. xs ++ filter (of_lane lane) others) not_mine in
          subst (λ marks. IsLawful (map deed_in marks)) (sym all) (lawful_stamped (suc number) lanes lane (λ k d less. sound (suc k) d (omega arith)))
    ]

-- ---- well recorded lanes

module _ (lanes : List (List Done)) (sound : All IsLane lanes) (apart : AllPairs AreApart lanes) where
  lane_of : (s : Stamped) (c : Comes 0 lanes s) → IsLane c.lane
  lane_of s c = all_member IsLane lanes c.lane sound (member_at lanes c.place c.lane c.found)

  -- calls of two lanes have different keys
  keys_apart : (p q : ℕ) (one other : List Done) (a b : Done) → p < q → slice_get lanes p ≡ Some one → slice_get lanes q ≡ Some other → Member a one → Member b other → a.call.key ≢ b.call.key
  keys_apart p q one other a b less at_p at_q l m =
      let far = pairs_at AreApart lanes p q one other less at_p at_q (pairs_from AreApart lanes apart) in
      all_member (λ (e : Done). a.call.key ≢ e.call.key) other b (all_member (λ (d : Done). All (λ (e : Done). d.call.key ≢ e.call.key) other) one a far l) m

  pub recorded : AreRecorded (stamped lanes)
  recorded = record {
    started = λ s m. let c = comes_from 0 lanes s m in all_member (λ (d : Done). d.call.start < d.point) c.lane s.done (lane_of s c).started c.done;
    ended = λ s m. let c = comes_from 0 lanes s m in all_member (λ (d : Done). d.point ≤ d.call.end) c.lane s.done (lane_of s c).ended c.done;
    rise = rise_stamped 0 lanes (λ k d less. (sound k d less).points_rise);
    home = λ a b l m same.
        let one = comes_from 0 lanes a l in
        let other = comes_from 0 lanes b m in
        elim (cases_before one.place other.place) [
          | inl less ↦ absurd (keys_apart one.place other.place one.lane other.lane a.done b.done less one.found other.found one.done other.done same)
          | inr rest ↦ elim rest [
            | inl e ↦ one.numbered ∙ ap (λ n. 0 + n) e ∙ sym other.numbered
            | inr less ↦ absurd (keys_apart other.place one.place other.lane one.lane b.done a.done less other.found one.found other.done one.done (sym same))
          ]
        ];
    lawful = λ lane. lawful_stamped 0 lanes lane sound;
  }

  pub lanes_accepted : (history : List Call) (certificate : List ℕ) → IsLaidOut lanes history certificate → IsAccepted history certificate
  lanes_accepted history certificate laid =
      let calls : history ≡ map call_in (stamped lanes) = laid.calls ∙ sym (calls_stamped 0 lanes) in
      let order : IsOrder (map call_in (stamped lanes)) certificate = subst (λ h. IsOrder h certificate) calls laid.spelled in
      let len = length-map (stamped lanes) call_in in
      let each : (p : ℕ) → p < length (stamped lanes) → Contains certificate p = λ p less. order.each p (omega (arith, len, less)) in
      subst (λ h. IsAccepted h certificate) (sym calls) (laid_accepted (stamped lanes) certificate recorded each (pairs_from _ certificate order.once) (pairs_from _ (picked (stamped lanes) certificate) laid.by_point) order)
