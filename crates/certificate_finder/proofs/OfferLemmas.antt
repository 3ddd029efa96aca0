-- What a put costs a hit, and the zones as hits join them.
use Rattle.std.proofs.Common.{◌≡◌, ℕ, ◌<◌, ◌≤◌, ◌⊎◌, Some, Option, List, length, set, refl, sym, ap, ◌∙◌, subst, arith, inl, inr}
use Rattle.std.specs.Prelude.{slice_get}
use Rattle.std.specs.Option.{option_map_or}
use Rattle.std.proofs.lemmas.Bool.{cases_eq}
use Rattle.std.proofs.lemmas.List.{get_or-set_same, length-set}
use Rattle.std.proofs.lemmas.Option.{slice_get_within, slice_get-get_or}
use Rattle.certificate_finder.specs.declared.groups.Groups.{Groups}
use Rattle.certificate_finder.specs.declared.numbered_call.NumberedCall.{NumberedCall}
use Rattle.certificate_finder.specs.declared.rule.Rule.{Rule}
use Rattle.certificate_finder.specs.declared.call_span.CallSpan.{CallSpan}
use Rattle.certificate_finder.specs.Choosing.{IsOffer, IsZoneOf, cost_of}
use Rattle.certificate_finder.specs.Offering.{AreGroups, IsLater, IsSooner, times_in}
use Rattle.certificate_finder.specs.Zones.{AreEarliest, AreLatest, Goes}
use Rattle.certificate_finder.proofs.EndLemmas.{EndsBefore, StartsBehind, at_set_other, at_set_same, ends_join, ends_self, found_at, starts_join, starts_self}
use Rattle.certificate_finder.proofs.Listing.{same_at}

abbrev times_by : Option NumberedCall → CallSpan
times_by call = record { start = option_map_or (λ (s : NumberedCall). s.start) call 0; end = option_map_or (λ (s : NumberedCall). s.end) call 0 }

-- when the call at a position started and ended
pub times_is : (steps : List NumberedCall) (p : ℕ) (step : NumberedCall) → slice_get steps p ≡ Some step → times_in steps p ≡ record { start = step.start; end = step.end }
times_is steps p step at = ap times_by at

pub start_is : (steps : List NumberedCall) (p : ℕ) (step : NumberedCall) → slice_get steps p ≡ Some step → (times_in steps p).start ≡ step.start
start_is steps p step at = ap (λ o. option_map_or (λ (s : NumberedCall). s.start) o 0) at

pub end_is : (steps : List NumberedCall) (p : ℕ) (step : NumberedCall) → slice_get steps p ≡ Some step → (times_in steps p).end ≡ step.end
end_is steps p step at = ap (λ o. option_map_or (λ (s : NumberedCall). s.end) o 0) at

-- what goes with a put is there
pub goes_in : (steps : List NumberedCall) (owners : List ℕ) (put other : ℕ) → length owners ≡ length steps → put < length steps → Goes owners put other → (step : NumberedCall) × (slice_get steps other ≡ Some step)
goes_in steps owners put other count within goes = elim goes [
  | inl same ↦ found_at steps other (omega arith)
  | inr owned ↦ let o = slice_get_within owners other put owned in found_at steps other (omega arith)
]

-- the zone of a put
pub zone_of : (steps : List NumberedCall) (groups : Groups) (put early late : ℕ) (first last : NumberedCall) → AreGroups steps groups → slice_get groups.earliest.items put ≡ Some early → slice_get groups.latest.items put ≡ Some late → slice_get steps early ≡ Some first → slice_get steps late ≡ Some last → IsZoneOf (times_in steps) groups.owners.items put (record { start = last.start; end = first.end })
zone_of steps groups put early late first last are at_early at_late at_first at_last =
    let e = are.earliest.each put early at_early in
    let l = are.latest.each put late at_late in
    let within = slice_get_within groups.earliest.items put early at_early in
    let count = are.earliest.count in
    let one : first ≡ e.0 = same_at steps early early first e.0 refl at_first e.1.at in
    let other : last ≡ l.0 = same_at steps late late last l.0 refl at_last l.1.at in
    record {
      early = early;
      late = late;
      early_goes = e.1.goes;
      late_goes = l.1.goes;
      end = sym (end_is steps early first at_first);
      start = sym (start_is steps late last at_last);
      least = λ q goes.
          let s = goes_in steps groups.owners.items put q are.count (omega arith) goes in
          let le = e.1.least q s.0 s.1 goes in
          let a = end_is steps q s.0 s.1 in
          let b : first.end ≡ e.0.end = ap (λ (s : NumberedCall). s.end) one in
          omega arith;
      greatest = λ q goes.
          let s = goes_in steps groups.owners.items put q are.count (omega arith) goes in
          let le = l.1.greatest q s.0 s.1 goes in
          let a = start_is steps q s.0 s.1 in
          let b : last.start ≡ l.0.start = ap (λ (s : NumberedCall). s.start) other in
          omega arith;
    }

-- what a put costs a hit
pub offer_is : (steps : List NumberedCall) (groups : Groups) (rule : Rule) (hit put early late : ℕ) (asked given first last : NumberedCall) (hit_times put_times : CallSpan) (cost : ℕ) → AreGroups steps groups → slice_get steps hit ≡ Some asked → slice_get steps put ≡ Some given → slice_get groups.earliest.items put ≡ Some early → slice_get groups.latest.items put ≡ Some late → slice_get steps early ≡ Some first → slice_get steps late ≡ Some last → hit_times ≡ record { start = asked.start; end = asked.end } → put_times ≡ record { start = given.start; end = given.end } → cost ≡ cost_of rule hit_times put_times (record { start = last.start; end = first.end }) → IsOffer rule (times_in steps) groups.owners.items hit (record { put = put; start = given.start; cost = cost })
offer_is steps groups rule hit put early late asked given first last hit_times put_times cost are at_hit at_put at_early at_late at_first at_last hit_is put_is cost_is = record {
  zone = record { start = last.start; end = first.end };
  is_zone = zone_of steps groups put early late first last are at_early at_late at_first at_last;
  start = sym (start_is steps put given at_put);
  cost = cost_is ∙ ap (λ t. cost_of rule t put_times (record { start = last.start; end = first.end })) (hit_is ∙ sym (times_is steps hit asked at_hit)) ∙ ap (λ t. cost_of rule (times_in steps hit) t (record { start = last.start; end = first.end })) (put_is ∙ sym (times_is steps put given at_put));
}

-- ---- a hit joins a put

pub at_set : {X : Type 0} (xs : List X) (i : ℕ) (v : X) → i < length xs → slice_get (set xs i v) i ≡ Some v
at_set xs i v less =
    let len = length-set xs i v in
    slice_get-get_or (set xs i v) i v (omega arith) ∙ ap Some (get_or-set_same xs i v v less)

-- what is elsewhere stays there
pub at_unset : {X : Type 0} (xs : List X) (i : ℕ) (v : X) (k : ℕ) (x : X) → (k ≡ i → ⊥) → slice_get xs k ≡ Some x → slice_get (set xs i v) k ≡ Some x
at_unset xs i v k x other at =
    let within = slice_get_within xs k x at in
    let len = length-set xs i v in
    let f = found_at (set xs i v) k (omega arith) in
    let old = at_set_other xs i v k f.0 other f.1 in
    f.1 ∙ ap Some (same_at xs k k f.0 x refl old at)

pub record IsBest (R : NumberedCall → NumberedCall → Type 0) (steps : List NumberedCall) (owners : List ℕ) (write position : ℕ) : Type 0 where
  pub step : NumberedCall
  pub at : slice_get steps position ≡ Some step
  pub goes : Goes owners write position
  pub best : (other : ℕ) (call : NumberedCall) → slice_get steps other ≡ Some call → Goes owners write other → R step call

pub record AreBest (R : NumberedCall → NumberedCall → Type 0) (steps : List NumberedCall) (owners bests : List ℕ) : Type 0 where
  pub count : length bests ≡ length steps
  pub each : (write position : ℕ) → slice_get bests write ≡ Some position → IsBest R steps owners write position

module _ (R : NumberedCall → NumberedCall → Type 0) (self : (s : NumberedCall) → R s s) (join : (a b c : NumberedCall) → R a b → R b c → R a c) (steps : List NumberedCall) (owners bests : List ℕ) (had : AreBest R steps owners bests) (hit put known : ℕ) (step best : NumberedCall) (count : length owners ≡ length steps) (alone : slice_get owners hit ≡ Some hit) (at : slice_get steps hit ≡ Some step) (known_at : slice_get bests put ≡ Some known) (best_at : slice_get steps known ≡ Some best) where
  hit_within : hit < length owners
  hit_within = slice_get_within owners hit hit alone

  -- what went with the put still does
  goes_on : (q : ℕ) → Goes owners put q → Goes (set owners hit put) put q
  goes_on q goes = elim goes [
    | inl same ↦ inl same
    | inr owned ↦ elim (cases_eq q hit) [
      | inl here ↦ inr (ap (slice_get (set owners hit put)) here ∙ at_set owners hit put hit_within)
      | inr other ↦ inr (at_unset owners hit put q put other owned)
    ]
  ]

  -- what goes with the put now did before, or is the hit
  went : (q : ℕ) → Goes (set owners hit put) put q → Goes owners put q ⊎ (q ≡ hit)
  went q goes = elim goes [
    | inl same ↦ inl (inl same)
    | inr owned ↦ elim (cases_eq q hit) [
      | inl here ↦ inr here
      | inr other ↦ inl (inr (at_set_other owners hit put q put other owned))
    ]
  ]

  -- with another write go the same calls
  goes_still : (w q : ℕ) → Goes owners w q → Goes (set owners hit put) w q
  goes_still w q goes = elim goes [
    | inl same ↦ inl same
    | inr owned ↦ elim (cases_eq q hit) [
      | inl here ↦ inl (here ∙ sym (same_at owners q hit w hit here owned alone))
      | inr other ↦ inr (at_unset owners hit put q w other owned)
    ]
  ]

  went_still : (w q : ℕ) → (w ≡ put → ⊥) → Goes (set owners hit put) w q → Goes owners w q
  went_still w q apart goes = elim goes [
    | inl same ↦ inl same
    | inr owned ↦ elim (cases_eq q hit) [
      | inl here ↦ absurd (apart (at_set_same owners hit put q w here owned))
      | inr other ↦ inr (at_set_other owners hit put q w other owned)
    ]
  ]

  old_best : (q : ℕ) (call : NumberedCall) → slice_get steps q ≡ Some call → Goes owners put q → R best call
  old_best q call at_q goes =
      let old = had.each put known known_at in
      subst (λ s. R s call) (same_at steps known known old.step best refl old.at best_at) (old.best q call at_q goes)

  of_put : (p chosen : ℕ) → p ≡ chosen → ((R step best × (chosen ≡ hit)) ⊎ (R best step × (chosen ≡ known))) → IsBest R steps (set owners hit put) put p
  of_put p chosen is better = elim better [
    | inl taken ↦ record {
      step = step;
      at = ap (slice_get steps) (is ∙ taken.1) ∙ at;
      goes = inr (ap (slice_get (set owners hit put)) (is ∙ taken.1) ∙ at_set owners hit put hit_within);
      best = λ q call at_q goes. elim (went q goes) [
        | inl before ↦ join step best call taken.0 (old_best q call at_q before)
        | inr here ↦ subst (λ c. R step c) (same_at steps hit q step call (sym here) at at_q) (self step)
      ];
    }
    | inr kept ↦
        let old = had.each put known known_at in
        record {
          step = best;
          at = ap (slice_get steps) (is ∙ kept.1) ∙ best_at;
          goes = subst (λ k. Goes (set owners hit put) put k) (sym (is ∙ kept.1)) (goes_on known old.goes);
          best = λ q call at_q goes. elim (went q goes) [
            | inl before ↦ old_best q call at_q before
            | inr here ↦ subst (λ c. R best c) (same_at steps hit q step call (sym here) at at_q) kept.0
          ];
        }
  ]

  pub joined : (chosen : ℕ) → ((R step best × (chosen ≡ hit)) ⊎ (R best step × (chosen ≡ known))) → AreBest R steps (set owners hit put) (set bests put chosen)
  joined chosen better = record {
    count = length-set bests put chosen ∙ had.count;
    each = λ w p at_w. elim (cases_eq w put) [
      | inl same ↦ subst (λ v. IsBest R steps (set owners hit put) v p) (sym same) (of_put p chosen (at_set_same bests put chosen w p same at_w) better)
      | inr other ↦
          let old = had.each w p (at_set_other bests put chosen w p other at_w) in
          record {
            step = old.step;
            at = old.at;
            goes = goes_still w p old.goes;
            best = λ q call at_q goes. old.best q call at_q (went_still w q other goes);
          }
    ];
  }

from_earliest : (steps : List NumberedCall) (owners bests : List ℕ) → AreEarliest steps owners bests → AreBest EndsBefore steps owners bests
from_earliest steps owners bests are = record { count = are.count; each = λ w p at. let e = are.each w p at in record { step = e.0; at = e.1.at; goes = e.1.goes; best = e.1.least } }

to_earliest : (steps : List NumberedCall) (owners bests : List ℕ) → AreBest EndsBefore steps owners bests → AreEarliest steps owners bests
to_earliest steps owners bests are = record { count = are.count; each = λ w p at. let e = are.each w p at in (e.step, record { at = e.at; goes = e.goes; least = e.best }) }

from_latest : (steps : List NumberedCall) (owners bests : List ℕ) → AreLatest steps owners bests → AreBest StartsBehind steps owners bests
from_latest steps owners bests are = record { count = are.count; each = λ w p at. let e = are.each w p at in record { step = e.0; at = e.1.at; goes = e.1.goes; best = e.1.greatest } }

to_latest : (steps : List NumberedCall) (owners bests : List ℕ) → AreBest StartsBehind steps owners bests → AreLatest steps owners bests
to_latest steps owners bests are = record { count = are.count; each = λ w p at. let e = are.each w p at in (e.step, record { at = e.at; goes = e.goes; greatest = e.best }) }

-- the groups after a hit joined a put
pub groups_joined : (steps : List NumberedCall) (old new : Groups) (hit put known noted early late : ℕ) (step : NumberedCall) → AreGroups steps old → slice_get old.owners.items hit ≡ Some hit → slice_get steps hit ≡ Some step → slice_get old.earliest.items put ≡ Some known → slice_get old.latest.items put ≡ Some noted → IsSooner steps known hit step early → IsLater steps noted hit step late → new.owners.items ≡ set old.owners.items hit put → new.earliest.items ≡ set old.earliest.items put early → new.latest.items ≡ set old.latest.items put late → AreGroups steps new
groups_joined steps old new hit put known noted early late step are alone at known_at noted_at sooner later owners_is earliest_is latest_is =
    let one = to_earliest steps (set old.owners.items hit put) (set old.earliest.items put early) (joined EndsBefore ends_self ends_join steps old.owners.items old.earliest.items (from_earliest steps old.owners.items old.earliest.items are.earliest) hit put known step sooner.0 are.count alone at known_at sooner.1 early (elim sooner.2 [
      | inl taken ↦ inl ((let l = taken.0 in let r : step.end ≤ sooner.0.end = omega arith in r), taken.1)
      | inr kept ↦ inr kept
    ])) in
    let other = to_latest steps (set old.owners.items hit put) (set old.latest.items put late) (joined StartsBehind starts_self starts_join steps old.owners.items old.latest.items (from_latest steps old.owners.items old.latest.items are.latest) hit put noted step later.0 are.count alone at noted_at later.1 late (elim later.2 [
      | inl taken ↦ inl ((let l = taken.0 in let r : later.0.start ≤ step.start = omega arith in r), taken.1)
      | inr kept ↦ inr kept
    ])) in
    record {
      count = ap length owners_is ∙ length-set old.owners.items hit put ∙ are.count;
      earliest = subst (λ o. AreEarliest steps o new.earliest.items) (sym owners_is) (subst (λ b. AreEarliest steps (set old.owners.items hit put) b) (sym earliest_is) one);
      latest = subst (λ o. AreLatest steps o new.latest.items) (sym owners_is) (subst (λ b. AreLatest steps (set old.owners.items hit put) b) (sym latest_is) other);
    }
