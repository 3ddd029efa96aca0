-- Writes with the hits that go with them: one after the other, or crossed.
use Rattle.std.proofs.Common.{◌≡◌, ◌≢◌, ℕ, ◌+◌, ◌<◌, ◌≤◌, true, Some, List, map, get_or, sym, ◌∙◌, subst, arith, inl, inr}
use Rattle.std.specs.Prelude.{slice_get, AllPairs, IsSomeAnd}
use Rattle.std.proofs.lemmas.Bool.{cases_lt}
use Rattle.std.proofs.lemmas.List.{length-map, get_or-map}
use Rattle.trace_file.specs.declared.call.Call.{Call}
use Rattle.certificate_checker.specs.Deeds.{deed_of}
use Rattle.certificate_checker.specs.Latest.{Writes}
use Rattle.certificate_checker.specs.Orders.{Precedes, IsOrder}
use Rattle.certificate_checker.proofs.public_laws.Lookups.{and_some}
use Rattle.certificate_finder.specs.declared.witness.Side.{Side}
use Rattle.certificate_finder.specs.Spots.{is_at, AreOfOne}
use Rattle.certificate_finder.specs.Turns.{start_at, end_at}
use Rattle.certificate_finder.specs.Witnesses.{GoesWith, AreCrossed}

-- ---- one after the other

-- early and late are the least end and the greatest start of the calls in the zone of a call
module _ (history : List Call) (zone turn early late : ℕ → ℕ) (spans : (p : ℕ) (key : List ℕ) → is_at history key p ≡ true → (start_at history p ≤ late p) × (early p ≤ end_at history p)) (rising : (p q : ℕ) → AreOfOne history p q → turn p ≤ turn q → zone p ≤ zone q) (apart : (p q : ℕ) → AreOfOne history p q → zone p < zone q → late p ≤ early q) (beside : (p q : ℕ) → AreOfOne history p q → zone p ≡ zone q → turn p ≤ turn q → p ≢ q → start_at history p ≤ end_at history q) where
  -- an earlier call of a key starts no later than a later one ends
  pub zones_fit : (p q : ℕ) → AreOfOne history p q → turn p ≤ turn q → p ≢ q → start_at history p ≤ end_at history q
  zones_fit p q one le differ = elim (cases_lt (zone p) (zone q)) [
    | inl less ↦
        let first = (spans p one.key one.first).0 in
        let second = (spans q one.key one.second).1 in
        let between = apart p q one less in
        omega (arith, first, second, between)
    | inr enough ↦
        let up = rising p q one le in
        beside p q one (omega (arith, enough, up)) le differ
  ]

-- the same of the places of a line
pub line_fits : {X : Type 0} (position : X → ℕ) (history : List Call) (turn : ℕ → ℕ) (line : List X) → IsOrder history (map position line) → AllPairs (λ p q. turn p ≤ turn q) (map position line) → ((p q : ℕ) → AreOfOne history p q → turn p ≤ turn q → p ≢ q → start_at history p ≤ end_at history q) → AllPairs (λ a b. AreOfOne history (position a) (position b) → start_at history (position a) ≤ end_at history (position b)) line
line_fits position history turn line order in_turn each = λ i j d less within one.
    let len = length-map line position in
    let a = position (get_or line i d) in
    let b = position (get_or line j d) in
    let at_i : get_or (map position line) i (position d) ≡ position (get_or line i d) = get_or-map position line i d (position d) (omega arith) in
    let at_j : get_or (map position line) j (position d) ≡ position (get_or line j d) = get_or-map position line j d (position d) within in
    let le = in_turn i j (position d) less (omega (arith, len, within)) in
    let differ = order.once i j (position d) less (omega (arith, len, within)) in
    each (position (get_or line i d)) (position (get_or line j d)) one
    (subst (λ q. turn (position (get_or line i d)) ≤ turn q) at_j (subst (λ p. turn p ≤ turn (get_or (map position line) j (position d))) at_i le))
    (λ same. differ (at_i ∙ same ∙ sym at_j))

-- ---- crossed

-- of two zones of a key in the order of the sums of least end and greatest start, the later one ends before the earlier one starts: then the earlier one ends before the later one starts too
pub both_ways : (e s f t : ℕ) → e + s ≤ f + t → f < s → e < t
both_ways e s f t sums less = omega arith

-- two zones of a key, each of which ends for some call before the other starts for some call
pub crossed : (history : List Call) (key : List ℕ) (one other : Side) (v w a1 b1 a2 b2 : Call) → one.write ≢ other.write → slice_get history one.write ≡ Some v → Writes (deed_of v) key → slice_get history other.write ≡ Some w → Writes (deed_of w) key → GoesWith history one.write one.early → GoesWith history one.write one.late → GoesWith history other.write other.early → GoesWith history other.write other.late → slice_get history one.early ≡ Some a1 → slice_get history one.late ≡ Some b1 → slice_get history other.early ≡ Some a2 → slice_get history other.late ≡ Some b2 → a1.end < b2.start → a2.end < b1.start → AreCrossed history one other
crossed history key one other v w a1 b1 a2 b2 apart at_v writes_v at_w writes_w early_one late_one early_other late_other at_a1 at_b1 at_a2 at_b2 forth less =
    record {
      key = key;
      apart = apart;
      first = record {
        writes = and_some (slice_get history one.write) (λ write. Writes (deed_of write) key) v at_v writes_v;
        early_goes = early_one;
        late_goes = late_one;
        precedes = and_some (slice_get history one.early) (λ early. IsSomeAnd (slice_get history other.late) (λ late. Precedes early late)) a1 at_a1 (and_some (slice_get history other.late) (λ late. Precedes a1 late) b2 at_b2 forth);
      };
      second = record {
        writes = and_some (slice_get history other.write) (λ write. Writes (deed_of write) key) w at_w writes_w;
        early_goes = early_other;
        late_goes = late_other;
        precedes = and_some (slice_get history other.early) (λ early. IsSomeAnd (slice_get history one.late) (λ late. Precedes early late)) a2 at_a2 (and_some (slice_get history one.late) (λ late. Precedes a2 late) b1 at_b1 less);
      };
    }
