-- That no rule gives a certificate for a key, of calls in numbers and of their history.
use Rattle.std.proofs.Common.{◌≡◌, ℕ, ◌<◌, ◌≤◌, zero, suc, Some, None, List, [], ◌∷◌, length, set, refl, sym, ap, ◌∙◌, subst, arith, inl, inr}
use Rattle.std.specs.Prelude.{slice_get, IsSomeAnd}
use Rattle.std.specs.Option.{option_map_or}
use Rattle.std.proofs.lemmas.Bool.{cases_lt}
use Rattle.std.proofs.lemmas.List.Elements.{All-contains, All-weaker}
use Rattle.std.proofs.lemmas.Option.{slice_get_within}
use Rattle.trace_file.specs.declared.call.Call.{Call}
use Rattle.certificate_checker.specs.Deeds.{deed_of}
use Rattle.certificate_checker.specs.Latest.{Writes}
use Rattle.certificate_checker.specs.Orders.{Precedes}
use Rattle.certificate_checker.proofs.public_laws.Lookups.{and_some, some_and}
use Rattle.trace_file.specs.declared.call_kind.CallKind.TheVariants as kinds
use Rattle.certificate_finder.specs.declared.numbered_call.NumberedCall.{NumberedCall}
use Rattle.certificate_finder.specs.declared.offer.Offer.{Offer}
use Rattle.certificate_finder.specs.declared.ranked.Ranked.{Ranked}
use Rattle.certificate_finder.specs.declared.rule.Rule.{Rule}
use Rattle.certificate_finder.specs.declared.rule.Rule.TheVariants.{LeastGrowth}
use Rattle.certificate_finder.specs.declared.call_span.CallSpan.{CallSpan}
use Rattle.certificate_finder.specs.declared.zone.Zone.{Zone}
use Rattle.certificate_finder.specs.Choosing.{ChoosesBy, ComesBefore, IsChosen, IsOffer, IsZoneOf, all_rules, cost_of}
use Rattle.certificate_finder.specs.Deciding.{FailsAt, NoneGives}
use Rattle.certificate_finder.specs.Lining.{positions_in}
use Rattle.certificate_finder.specs.Lists.{IsTold, TellsOne}
use Rattle.certificate_finder.specs.Offering.{HitsInTurn, ReadsIn, times_in}
use Rattle.certificate_finder.specs.Owning.{AreSureOwners, IsKnownOwner, IsUnsure, ReadsLive}
use Rattle.certificate_finder.specs.Reads.{CouldRead, HasSeveral}
use Rattle.trace_file.specs.Kinds.{IsWriting, kind_of}
use Rattle.certificate_finder.specs.Steps.{AreSteps}
use Rattle.certificate_finder.specs.Trying.{AreCrossedBy, AreInTurn, AreSure, GivesNoneAt, HasStuckKey, IsSideBy, IsSure, times_at}
use Rattle.certificate_finder.specs.Turns.{end_at, start_at}
use Rattle.certificate_finder.specs.Writing.{Writing}
use Rattle.certificate_finder.specs.Zones.{AreCrossedAt, AreCrossing, AreZones, Goes, TellsZone, side_of}
use Rattle.certificate_finder.proofs.EndLemmas.{found_at}
use Rattle.certificate_finder.proofs.FindLemmas.{call_at, could_by, could_of, has_several, reads_of, several_of, step_at, write_of, writing_of}
use Rattle.certificate_finder.proofs.Listing.{all_at, all_from_at, contains_at, pair_at, pairs_from_at, same_at}
use Rattle.certificate_finder.proofs.OfferLemmas.{end_is, start_is}

-- past the end is nothing
nothing_at : {X : Type 0} (xs : List X) (k : ℕ) → length xs ≤ k → slice_get xs k ≡ None
nothing_at [] k more = refl
nothing_at (x ∷ xs) zero more = absurd (omega arith)
nothing_at (x ∷ xs) (suc k) more = nothing_at xs k (omega arith)

abbrev the_times : ℕ → ℕ → CallSpan
the_times start end = record { start = start; end = end }

both_same : {a b c d : ℕ} → a ≡ b → c ≡ d → the_times a c ≡ the_times b d
both_same {a} {b} {c} {d} one other = ap (λ x. the_times x c) one ∙ ap (the_times b) other

-- ---- the same choice by the same times and the same puts

module _ (rule : Rule) (R S : ℕ → ℕ → Type 0) (t u : ℕ → CallSpan) (same : (p : ℕ) → t p ≡ u p) (to : (hit put : ℕ) → R hit put → S hit put) (back : (hit put : ℕ) → S hit put → R hit put) where
  start_same : (p : ℕ) → (t p).start ≡ (u p).start
  start_same p = ap (λ (x : CallSpan). x.start) (same p)

  end_same : (p : ℕ) → (t p).end ≡ (u p).end
  end_same p = ap (λ (x : CallSpan). x.end) (same p)

  zone_same : (owners : List ℕ) (put : ℕ) (zone : CallSpan) → IsZoneOf t owners put zone → IsZoneOf u owners put zone
  zone_same owners put zone is = record {
    early = is.early;
    late = is.late;
    early_goes = is.early_goes;
    late_goes = is.late_goes;
    end = is.end ∙ end_same is.early;
    start = is.start ∙ start_same is.late;
    least = λ q goes. let le = is.least q goes in let e = end_same q in omega arith;
    greatest = λ q goes. let le = is.greatest q goes in let e = start_same q in omega arith;
  }

  offer_same : (owners : List ℕ) (hit : ℕ) (offer : Offer) → IsOffer rule t owners hit offer → IsOffer rule u owners hit offer
  offer_same owners hit offer is = record {
    zone = is.zone;
    is_zone = zone_same owners offer.put is.zone is.is_zone;
    start = is.start ∙ start_same offer.put;
    cost = is.cost ∙ ap (λ x. cost_of rule x (t offer.put) is.zone) (same hit) ∙ ap (λ x. cost_of rule (u hit) x is.zone) (same offer.put);
  }

  chosen_same : (owners : List ℕ) (hit put : ℕ) → IsChosen rule R t owners hit put → IsChosen rule S u owners hit put
  chosen_same owners hit put is = record {
    offer = is.offer;
    is = offer_same owners hit is.offer is.is;
    put_is = is.put_is;
    can = to hit put is.can;
    best = λ other reads apart.
        let w = is.best other (back hit other reads) apart in
        record { rival = w.rival; is = offer_same owners hit w.rival w.is; put_is = w.put_is; wins = w.wins };
  }

  pub chooses_same : (owners hits chosen : List ℕ) → ChoosesBy rule R t owners hits chosen → ChoosesBy rule S u owners hits chosen
  chooses_same owners [] chosen by_rule = by_rule
  chooses_same owners (hit ∷ hits) chosen by_rule = (by_rule.0, chosen_same owners hit by_rule.0 by_rule.1, chooses_same (set owners hit by_rule.0) hits chosen by_rule.2)

module _ (history : List Call) (steps : List NumberedCall) (are : AreSteps history steps) where
  -- ---- times and puts of a history

  pub times_same : (p : ℕ) → times_in steps p ≡ times_at history p
  times_same p =
      let count = are.count in
      elim (cases_lt p (length steps)) [
        | inl less ↦
            let s = found_at steps p less in
            let c = call_at history steps are p s.0 s.1 in
            let start : (times_in steps p).start ≡ start_at history p = start_is steps p s.0 s.1 ∙ c.2.start ∙ sym (ap (λ o. option_map_or (λ (call : Call). call.start) o 0) c.1) in
            let end : (times_in steps p).end ≡ end_at history p = end_is steps p s.0 s.1 ∙ c.2.end ∙ sym (ap (λ o. option_map_or (λ (call : Call). call.end) o 0) c.1) in
            both_same start end
        | inr not ↦
            let none = nothing_at steps p (omega arith) in
            let other = nothing_at history p (omega arith) in
            let start : (times_in steps p).start ≡ start_at history p = ap (λ o. option_map_or (λ (step : NumberedCall). step.start) o 0) none ∙ sym (ap (λ o. option_map_or (λ (call : Call). call.start) o 0) other) in
            let end : (times_in steps p).end ≡ end_at history p = ap (λ o. option_map_or (λ (step : NumberedCall). step.end) o 0) none ∙ sym (ap (λ o. option_map_or (λ (call : Call). call.end) o 0) other) in
            both_same start end
      ]

  reads_in : (hit put : ℕ) → CouldRead history hit put → ReadsIn steps hit put
  reads_in hit put could =
      let has = could.stands.has in
      let s = step_at history steps are hit has.hit_call has.hit_at in
      let g = step_at history steps are put has.put_call has.put_at in
      record {
        asked = s.0;
        given = g.0;
        asked_at = s.1;
        given_at = g.1;
        kind = s.2.kind ∙ ap kind_of has.hit_is;
        reads = reads_of history steps are hit put s.0 g.0 s.1 g.1 could;
      }

  could_read : (hit put : ℕ) → ReadsIn steps hit put → CouldRead history hit put
  could_read hit put reads = could_by history steps are hit put reads.asked reads.given reads.asked_at reads.given_at reads.kind reads.reads

  -- ---- sure owners

  pub are_sure : (owners : List ℕ) → length owners ≡ length steps → ((p : ℕ) (step : NumberedCall) (owner : ℕ) → slice_get steps p ≡ Some step → slice_get owners p ≡ Some owner → IsKnownOwner steps p step owner) → AreSure history owners
  are_sure owners count owned = record {
    count = count ∙ are.count;
    each = λ p owner at.
        let within = slice_get_within owners p owner at in
        let s = found_at steps p (omega arith) in
        let asked : (put : ℕ) (sure : IsSure history p put) → (given : NumberedCall) × (slice_get steps put ≡ Some given) × (s.0.kind ≡ kinds.Hit) × ReadsLive steps s.0 given = λ put sure.
        let r = reads_in p put sure.could in
        let one : r.asked ≡ s.0 = same_at steps p p r.asked s.0 refl r.asked_at s.1 in
        (r.given, r.given_at, subst (λ (x : NumberedCall). x.kind ≡ kinds.Hit) one r.kind, subst (λ x. ReadsLive steps x r.given) one r.reads) in
        elim (owned p s.0 owner s.1 at) [
          | inl sure_one ↦ elim sure_one [
            | inl alone ↦ inr (
              alone.0,
              λ put sure.
                  let kind = (asked put sure).2 in
                  let two = has_several history steps are p (record { step = s.0; at = s.1; kind = kind; several = alone.1 kind }) in
                  two.apart (sure.only two.one two.first ∙ sym (sure.only two.other two.second)),
            )
            | inr only ↦ inl (record {
              could = could_of history steps are p owner s.0 s.1 only.0 only.1;
              only = λ other could.
                  let r = reads_in p other could in
                  let one : r.asked ≡ s.0 = same_at steps p p r.asked s.0 refl r.asked_at s.1 in
                  only.1.only other r.given r.given_at (subst (λ x. ReadsLive steps x r.given) one r.reads);
            })
          ]
          | inr wrong ↦ inr (
            wrong.0,
            λ put sure. let given = asked put sure in wrong.2 put given.0 given.1 given.3.may given.3.live,
          )
        ];
  }

  -- ---- hits in turn

  pub are_in_turn : (owners unsure : List ℕ) (hits : List Ranked) → AreSureOwners steps (length steps) owners unsure → HitsInTurn steps unsure hits → AreInTurn history (positions_in hits)
  are_in_turn owners unsure hits own turned = record {
    each = all_from_at (HasSeveral history) (positions_in hits) (λ k hit at. has_several history steps are hit (All-contains (IsUnsure steps) unsure hit own.are_unsure ((turned.same hit).1 (contains_at (positions_in hits) k hit at))));
    all = λ hit has. let is = several_of history steps are hit has in (turned.same hit).0 (own.all hit (slice_get_within steps hit is.step is.at) is);
    order = pairs_from_at (ComesBefore (times_at history)) (positions_in hits) (λ i j p q less one other.
        let before = pair_at (ComesBefore (times_in steps)) (positions_in hits) i j p q turned.order less one other in
        let a = ap (λ (x : CallSpan). x.start) (times_same p) in
        let b = ap (λ (x : CallSpan). x.start) (times_same q) in
        elim before [
          | inl earlier ↦ inl (omega arith)
          | inr same ↦ inr (sym a ∙ same.0 ∙ b, same.1)
        ]);
  }

  -- ---- writes that are crossed by a choice

  module _ (owners : List ℕ) (zones : List Zone) (zs : AreZones steps owners zones) where
    -- a zone ends for some call no later, and starts for some call no earlier, than any call that goes with its write
    pub ends_by : (write q : ℕ) (step : NumberedCall) (zone : Zone) (call : Call) → TellsZone steps owners write step zone → Goes owners write q → slice_get history q ≡ Some call → zone.end ≤ call.end
    ends_by write q step zone call tells goes at =
        let s = step_at history steps are q call at in
        let le = tells.earliest.least q s.0 s.1 goes in
        let a = tells.end in
        let b = s.2.end in
        omega arith

    pub starts_by : (write q : ℕ) (step : NumberedCall) (zone : Zone) (call : Call) → TellsZone steps owners write step zone → Goes owners write q → slice_get history q ≡ Some call → call.start ≤ zone.start
    starts_by write q step zone call tells goes at =
        let s = step_at history steps are q call at in
        let le = tells.latest.greatest q s.0 s.1 goes in
        let a = tells.start in
        let b = s.2.start in
        omega arith

    -- the zone of a write of a key
    pub zone_of : (key : List ℕ) (write : ℕ) → IsSomeAnd (slice_get history write) (λ w. Writes (deed_of w) key) → (call : Call) × (step : NumberedCall) × (slice_get history write ≡ Some call) × (slice_get steps write ≡ Some step) × (call.key ≡ key) × IsTold (TellsZone steps owners) zones write step
    zone_of key write writes =
        let w = some_and (slice_get history write) (λ w. Writes (deed_of w) key) writes in
        let s = step_at history steps are write w.0 w.1 in
        (w.0, s.0, w.1, s.1, w.2.0, zs.lists.complete write s.0 (slice_get_within steps write s.0 s.1) s.1 (subst IsWriting (sym s.2.kind) (writing_of w.0.act w.2.1)))

    side_by : (one other : Zone) (key : List ℕ) (v : Call) → (tells : TellsOne steps Writing (TellsZone steps owners) one) → (others : TellsOne steps Writing (TellsZone steps owners) other) → slice_get history tells.position ≡ Some v → v.key ≡ key → one.end < other.start → IsSideBy history owners key (side_of one) (side_of other)
    side_by one other key v tells others at same less =
        let here : one.write ≡ tells.position = tells.told.write in
        let vs = are.each tells.position v tells.step at tells.at in
        let early = call_at history steps are one.early tells.told.first tells.told.earliest.at in
        let late = call_at history steps are other.late others.told.last others.told.latest.at in
        let a = early.2.end in
        let b = late.2.start in
        let c = tells.told.end in
        let d = others.told.start in
        record {
          writes = and_some (slice_get history one.write) (λ w. Writes (deed_of w) key) v (ap (slice_get history) here ∙ at) (same, write_of v.act (subst IsWriting vs.kind tells.is_wanted));
          early_goes = subst (λ w. Goes owners w one.early) (sym here) tells.told.earliest.goes;
          late_goes = subst (λ w. Goes owners w one.late) (sym here) tells.told.latest.goes;
          precedes = and_some (slice_get history one.early) (λ e. IsSomeAnd (slice_get history other.late) (λ l. Precedes e l)) early.0 early.1 (and_some (slice_get history other.late) (λ l. Precedes early.0 l) late.0 late.1 (omega arith));
        }

    pub crossed_by_choice : (one other : Zone) → AreCrossing zones (record { one = one; other = other }) → AreCrossedBy history owners (side_of one) (side_of other)
    crossed_by_choice one other crossing =
        let t = All-contains (TellsOne steps Writing (TellsZone steps owners)) zones one zs.lists.sound crossing.one_listed in
        let o = All-contains (TellsOne steps Writing (TellsZone steps owners)) zones other zs.lists.sound crossing.other_listed in
        let v = call_at history steps are t.position t.step t.at in
        let w = call_at history steps are o.position o.step o.at in
        let alike = are.alike o.position t.position w.0 v.0 o.step t.step w.1 v.1 o.at t.at in
        let key : w.0.key ≡ v.0.key = alike.keys.0 (sym o.told.key ∙ sym crossing.key ∙ t.told.key) in
        record {
          key = v.0.key;
          apart = crossing.apart;
          first = side_by one other v.0.key v.0 t o v.1 refl crossing.forth;
          second = side_by other one v.0.key w.0 o t w.1 key crossing.back;
        }

  -- ---- no rule gives a certificate for a key

  -- the key of a write of two that are crossed by a choice
  crossed_key : (owners : List ℕ) (zones : List Zone) (zs : AreZones steps owners zones) (key p : ℕ) (call : Call) (step : NumberedCall) → slice_get history p ≡ Some call → slice_get steps p ≡ Some step → step.key ≡ key → (at_key : AreCrossedAt zones key) → (crossed_by_choice owners zones zs at_key.crossing.one at_key.crossing.other at_key.crossed).key ≡ call.key
  unfolding crossed_by_choice
  crossed_key owners zones zs key p call step call_is step_is same at_key =
      let t = All-contains (TellsOne steps Writing (TellsZone steps owners)) zones at_key.crossing.one zs.lists.sound at_key.crossed.one_listed in
      let v = call_at history steps are t.position t.step t.at in
      let alike = are.alike t.position p v.0 call t.step step v.1 call_is t.at step_is in
      alike.keys.0 (sym t.told.key ∙ at_key.of_key ∙ sym same)

  gives_none_at : (owners unsure : List ℕ) (hits : List Ranked) (key p : ℕ) (call : Call) (step : NumberedCall) (rule : Rule) → slice_get history p ≡ Some call → slice_get steps p ≡ Some step → step.key ≡ key → AreSureOwners steps (length steps) owners unsure → HitsInTurn steps unsure hits → FailsAt steps owners (positions_in hits) key rule → GivesNoneAt history call.key rule
  gives_none_at owners unsure hits key p call step rule call_is step_is same own turned fails =
      let crossing = fails.crossed.crossing in
      record {
        owners = owners;
        hits = positions_in hits;
        chosen = fails.chosen;
        sure = are_sure owners own.count (λ p s o at_s at_o. inl (own.owned p s o at_s at_o));
        in_turn = are_in_turn owners unsure hits own turned;
        by_rule = chooses_same rule (ReadsIn steps) (CouldRead history) (times_in steps) (times_at history) times_same could_read reads_in owners (positions_in hits) fails.chosen fails.by_rule;
        one = side_of crossing.one;
        other = side_of crossing.other;
        crossed = crossed_by_choice fails.chosen fails.zones fails.are_zones crossing.one crossing.other fails.crossed.crossed;
        of_key = crossed_key fails.chosen fails.zones fails.are_zones key p call step call_is step_is same fails.crossed;
      }

  -- some call is of a key at which a rule fails
  call_of : (owners hits : List ℕ) (key : ℕ) (rule : Rule) → FailsAt steps owners hits key rule → (p : ℕ) × (step : NumberedCall) × (call : Call) × (slice_get steps p ≡ Some step) × (slice_get history p ≡ Some call) × (step.key ≡ key)
  call_of owners hits key rule fails =
      let t = All-contains (TellsOne steps Writing (TellsZone steps fails.chosen)) fails.zones fails.crossed.crossing.one fails.are_zones.lists.sound fails.crossed.crossed.one_listed in
      let c = call_at history steps are t.position t.step t.at in
      (t.position, t.step, c.0, t.at, c.1, sym t.told.key ∙ fails.crossed.of_key)

  pub none_tried : (owners unsure : List ℕ) → AreSureOwners steps (length steps) owners unsure → NoneGives steps owners unsure → HasStuckKey history
  none_tried owners unsure own none =
      let key = none.fail.key in
      let c = call_of owners (positions_in none.hits) key LeastGrowth (all_at (FailsAt steps owners (positions_in none.hits) key) all_rules 0 LeastGrowth none.fail.fail refl) in
      record {
        key = c.2.key;
        none = All-weaker (FailsAt steps owners (positions_in none.hits) key) (GivesNoneAt history c.2.key) (λ rule fails. gives_none_at owners unsure none.hits key c.0 c.2 c.1 rule c.4 c.3 c.5 own none.turned fails) all_rules none.fail.fail;
      }
