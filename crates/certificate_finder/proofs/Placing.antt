-- A line of calls with its points: sorted by points and places, it is accepted.
use Rattle.std.proofs.Common.{◌≡◌, ◌≢◌, ℕ, ◌+◌, ◌*◌, ◌/◌, ◌<◌, ◌≤◌, true, false, Option, Some, None, List, length, map, get_or, refl, sym, ap, ◌∙◌, subst, arith}
use Rattle.std.specs.Prelude.{slice_get, All, AllPairs}
use Rattle.std.specs.Option.{option_map_or}
use Rattle.std.specs.List.Sorted.{IsPermutation, IsNonDecreasingBy}
use Rattle.std.proofs.lemmas.List.{length-map, get_or-map}
use Rattle.trace_file.specs.declared.call.Call.{Call}
use Rattle.certificate_checker.specs.Acceptance.{IsAccepted}
use Rattle.certificate_checker.specs.Deeds.{deed_of}
use Rattle.certificate_checker.specs.Orders.{IsOrder}
use Rattle.certificate_checker.proofs.public_laws.Accepting.{found_at}
use Rattle.certificate_checker.proofs.public_laws.Listing.{pairs_from}
use Rattle.certificate_checker.proofs.public_laws.Lookups.{and_some}
use Rattle.certificate_finder.specs.Points.{ArePoints}
use Rattle.certificate_finder.specs.Spots.{is_miss, is_of, is_at, AreOfOne, HappensAt}
use Rattle.certificate_finder.specs.Turns.{AreTurns, start_at, end_at}
use Rattle.certificate_finder.proofs.ByKeys.{of_key, key_of}
use Rattle.certificate_finder.proofs.Lines.{line_lawful}
use Rattle.certificate_finder.proofs.Merging.{sorted_accepted}
use Rattle.certificate_finder.proofs.Points.{points_rise, points_within}
use Rattle.certificate_finder.proofs.Reading.{all_at}

-- ---- calls of one key

some_at : (history : List Call) (key : List ℕ) (o : Option Call) → option_map_or (λ call. is_of key (deed_of call)) o false ≡ true → (call : Call) × (o ≡ Some call) × (call.key ≡ key) × (is_miss call.act ≡ false)
some_at history key None h = cc
some_at history key (Some call) h = let is = key_of key (deed_of call) h in (call, refl, is.0, is.1)

-- the call at a position of a key
pub call_of : (history : List Call) (key : List ℕ) (p : ℕ) → is_at history key p ≡ true → (call : Call) × (slice_get history p ≡ Some call) × (call.key ≡ key) × (is_miss call.act ≡ false)
call_of history key p h = some_at history key (slice_get history p) h

-- and back
pub at_of : (history : List Call) (key : List ℕ) (p : ℕ) (call : Call) → slice_get history p ≡ Some call → call.key ≡ key → is_miss call.act ≡ false → is_at history key p ≡ true
at_of history key p call at one_key no_miss = rw at (of_key key (deed_of call) one_key no_miss)

-- two calls of one key, neither a miss
pub of_one : (history : List Call) (p q : ℕ) (a b : Call) → slice_get history p ≡ Some a → slice_get history q ≡ Some b → a.key ≡ b.key → is_miss a.act ≡ false → is_miss b.act ≡ false → AreOfOne history p q
of_one history p q a b at_p at_q same no_miss no_other = record { key = b.key; first = at_of history b.key p a at_p same no_miss; second = at_of history b.key q b at_q refl no_other }

-- and back
pub one_of : (history : List Call) (p q : ℕ) (a b : Call) → slice_get history p ≡ Some a → slice_get history q ≡ Some b → AreOfOne history p q → (a.key ≡ b.key) × (is_miss a.act ≡ false) × (is_miss b.act ≡ false)
one_of history p q a b at_p at_q one =
    let first = call_of history one.key p one.first in
    let second = call_of history one.key q one.second in
    let both : Some first.0 ≡ Some a = sym first.1 ∙ at_p in
    let others : Some second.0 ≡ Some b = sym second.1 ∙ at_q in
    let same : first.0 ≡ a = cc in
    let other : second.0 ≡ b = cc in (
      ap (λ (c : Call). c.key) (sym same) ∙ first.2 ∙ sym second.2 ∙ ap (λ (c : Call). c.key) other,
      ap (λ (c : Call). is_miss c.act) (sym same) ∙ first.3,
      ap (λ (c : Call). is_miss c.act) (sym other) ∙ second.3,
    )

pub one_turned : (history : List Call) (p q : ℕ) → AreOfOne history p q → AreOfOne history q p
one_turned history p q one = record { key = one.key; first = one.second; second = one.first }

pub one_joined : (history : List Call) (p q r : ℕ) → AreOfOne history p q → AreOfOne history q r → AreOfOne history p r
one_joined history p q r one other =
    let first = call_of history one.key q one.second in
    let second = call_of history other.key q other.first in
    let both : Some first.0 ≡ Some second.0 = sym first.1 ∙ second.1 in
    let same : first.0 ≡ second.0 = cc in
    let keys : other.key ≡ one.key = sym second.2 ∙ ap (λ (c : Call). c.key) (sym same) ∙ first.2 in
    record { key = one.key; first = one.first; second = subst (λ k. is_at history k r ≡ true) keys other.second }

-- ---- stamps

pub start_is : (history : List Call) (p : ℕ) (call : Call) → slice_get history p ≡ Some call → start_at history p ≡ call.start
start_is history p call at = rw at refl

pub end_is : (history : List Call) (p : ℕ) (call : Call) → slice_get history p ≡ Some call → end_at history p ≡ call.end
end_is history p call at = rw at refl

-- ---- ranks of points and places

div_rises : (a b : ℕ) → a ≤ b → a / 4294967296 ≤ b / 4294967296
div_rises a b le = omega arith

same_place : (a b i j : ℕ) → i < j → a ≡ a / 4294967296 * 4294967296 + i → b ≡ b / 4294967296 * 4294967296 + j → a ≢ b
same_place a b i j less one other same = let points = ap (λ n. n / 4294967296) same in omega (arith, less, one, other, same, points)

-- ---- a line

module _ {X : Type 0} (position rank : X → ℕ) (history : List Call) (line : List X) (order : IsOrder history (map position line)) where
  -- the call at a place
  placed : (k : ℕ) (d : X) → k < length line → (call : Call) × (slice_get history (position (get_or line k d)) ≡ Some call)
  placed k d less =
      let len = length-map line position in
      let below = order.positions k (position d) (omega (arith, less, len)) in
      let here : get_or (map position line) k (position d) ≡ position (get_or line k d) = get_or-map position line k d (position d) less in
      found_at history (position (get_or line k d)) (subst (λ p. p < length history) here below)

  in_time : All (λ call. call.start ≤ call.end) history → All (λ x. start_at history (position x) ≤ end_at history (position x)) line
  in_time intervals = λ k d less.
      let call = placed k d less in
      let from = start_is history (position (get_or line k d)) call.0 call.1 in
      let till = end_is history (position (get_or line k d)) call.0 call.1 in
      let fits = all_at (λ (c : Call). c.start ≤ c.end) history (position (get_or line k d)) call.0 intervals call.1 in
      omega (arith, from, till, fits)

module _ {X : Type 0} (position rank : X → ℕ) (history : List Call) (owner turn : ℕ → ℕ) (line sorted : List X) (turns : AreTurns history owner turn) (order : IsOrder history (map position line)) (in_turn : AllPairs (λ p q. turn p ≤ turn q) (map position line)) (intervals : All (λ call. call.start ≤ call.end) history) (fits : AllPairs (λ a b. AreOfOne history (position a) (position b) → start_at history (position a) ≤ end_at history (position b)) line) (points : ArePoints position (λ x. rank x / 4294967296) (AreOfOne history) (start_at history) line) (places : (k : ℕ) (d : X) → k < length line → rank (get_or line k d) ≡ rank (get_or line k d) / 4294967296 * 4294967296 + k) (permuted : IsPermutation line sorted) (ascends : IsNonDecreasingBy rank sorted) where
  happens : All (λ x. HappensAt history (position x) (rank x / 4294967296)) line
  happens = λ k d less.
      let call = placed position rank history line order k d less in
      let x = get_or line k d in
      let both = points_within (AreOfOne history) (start_at history) position (λ (x : X). rank x / 4294967296) (end_at history) line points (in_time position rank history line order intervals) fits k d less in
      let from : call.0.start ≤ rank (get_or line k d) / 4294967296 = subst (λ n. n ≤ rank (get_or line k d) / 4294967296) (start_is history (position (get_or line k d)) call.0 call.1) both.0 in
      let till : rank (get_or line k d) / 4294967296 ≤ call.0.end = subst (λ n. rank (get_or line k d) / 4294967296 ≤ n) (end_is history (position (get_or line k d)) call.0 call.1) both.1 in
      and_some (slice_get history (position (get_or line k d))) (λ (c : Call). (c.start ≤ rank (get_or line k d) / 4294967296) × (rank (get_or line k d) / 4294967296 ≤ c.end)) call.0 call.1 (from, till)

  differ : AllPairs (λ a b. rank a ≢ rank b) line
  differ = λ i j d less within same.
      let one = places i d (omega arith) in
      let other = places j d within in
      same_place (rank (get_or line i d)) (rank (get_or line j d)) i j less one other same

  ranks_rise : AllPairs (λ a b. AreOfOne history (position a) (position b) → rank a < rank b) line
  ranks_rise = λ i j d less within one.
      let up = points_rise (AreOfOne history) (start_at history) position (λ (x : X). rank x / 4294967296) (one_joined history) line points i j d less within one in
      let first = places i d (omega arith) in
      let second = places j d within in
      omega (arith, up, first, second)

  -- a line in turn, sorted by points and places, is accepted
  pub line_accepted : IsAccepted history (map position sorted)
  line_accepted =
      sorted_accepted position (λ (x : X). rank x / 4294967296) rank history line sorted
      (λ a b le. div_rises (rank a) (rank b) le)
      order happens (line_lawful history owner turn turns (map position line) order (pairs_from (λ p q. turn p ≤ turn q) (map position line) in_turn)) ranks_rise differ permuted ascends
