-- The hits that can have read no put, each with what excludes its puts.
use Rattle.std.proofs.Common.{◌≡◌, ℕ, ◌+◌, ◌≤◌, Some, List, [], ◌∷◌, ◌++◌, length, take, refl, sym, ap, ◌∙◌, subst, arith}
use Rattle.std.specs.Prelude.{All, AllPairs, Contains, slice_get}
use Rattle.std.proofs.lemmas.List.{length-map, map_push, take_all}
use Rattle.std.proofs.lemmas.List.Elements.{All-contains, All-nil, All-push, All-weaker}
use Rattle.std.proofs.lemmas.Option.{slice_get_within}
use Rattle.trace_file.specs.declared.call.Call.{Call}
use Rattle.certificate_finder.specs.declared.faults.WrongHit.{WrongHit}
use Rattle.certificate_finder.specs.declared.numbered_call.NumberedCall.{NumberedCall}
use Rattle.certificate_finder.specs.declared.owning.Owners.{Owners}
use Rattle.certificate_finder.specs.declared.ranked.Ranked.{Ranked}
use Rattle.certificate_finder.specs.declared.stamp.Stamp.TheVariants.{End}
use Rattle.certificate_finder.specs.Choosing.{IsEarlierBy}
use Rattle.certificate_finder.specs.Excluding.{AreWrongAt, IsWrongAt}
use Rattle.certificate_finder.specs.Faults.{AreWrongHits, IsWrongHit}
use Rattle.certificate_finder.specs.Lining.{positions_in}
use Rattle.certificate_finder.specs.Offering.{AreByStamps, stamp_at}
use Rattle.certificate_finder.specs.Owning.{AreKnownOwners, IsRefused}
use Rattle.certificate_finder.specs.Steps.{AreSteps}
use Rattle.certificate_finder.specs.Turns.{end_at}
use Rattle.certificate_finder.proofs.FaultLemmas.{ends_earlier, refused_of}
use Rattle.certificate_finder.proofs.FindLemmas.{reads_none}
use Rattle.certificate_finder.proofs.InTurnLemmas.{next_is}
use Rattle.certificate_finder.proofs.Listing.{all_from_at, contains_at, pair_at, pairs_from_at}

pub wrong_begin : (steps : List NumberedCall) (most : ℕ) (wrong : List Ranked) → AreWrongAt steps most (take 0 (positions_in wrong)) []
wrong_begin steps most wrong = record { same = refl; each = All-nil (IsWrongAt steps most) }

-- one hit more
pub wrong_more : (steps : List NumberedCall) (most : ℕ) (wrong : List Ranked) (index : ℕ) (hit : Ranked) (hits : List WrongHit) (one : WrongHit) → AreWrongAt steps most (take index (positions_in wrong)) hits → slice_get wrong index ≡ Some hit → one.hit ≡ hit.position → IsWrongAt steps most one → AreWrongAt steps most (take (index + 1) (positions_in wrong)) (hits ++ one ∷ [])
wrong_more steps most wrong index hit hits one had at is told = record {
  same = map_push (λ (w : WrongHit). w.hit) hits one ∙ ap (λ ps. ps ++ one.hit ∷ []) had.same ∙ ap (λ p. take index (positions_in wrong) ++ p ∷ []) is ∙ sym (next_is wrong index hit at);
  each = All-push (IsWrongAt steps most) hits one had.each told;
}

pub all_wrong : (steps : List NumberedCall) (most : ℕ) (wrong : List Ranked) (index : ℕ) (hits : List WrongHit) → AreWrongAt steps most (take index (positions_in wrong)) hits → length wrong ≤ index → AreWrongAt steps most (positions_in wrong) hits
all_wrong steps most wrong index hits had all =
    let count : length (positions_in wrong) ≡ length wrong = length-map wrong (λ (r : Ranked). r.position) in
    subst (λ ps. AreWrongAt steps most ps hits) (take_all index (positions_in wrong) (omega arith)) had

-- hits that are listed as wrong are refused
pub are_refused : (steps : List NumberedCall) (owners : Owners) (wrong : List Ranked) → AreKnownOwners steps (length steps) owners → AreByStamps End steps owners.wrong.items wrong → All (IsRefused steps) (positions_in wrong)
are_refused steps owners wrong own turned = all_from_at (IsRefused steps) (positions_in wrong) (λ k hit at. All-contains (IsRefused steps) owners.wrong.items hit own.wrong.each ((turned.same hit).1 (contains_at (positions_in wrong) k hit at)))

-- these are all wrong hits of the history, by their ends
pub wrong_hits : (history : List Call) (steps : List NumberedCall) → AreSteps history steps → (owners : Owners) (most : ℕ) (wrong : List Ranked) (hits : List WrongHit) → AreKnownOwners steps (length steps) owners → AreByStamps End steps owners.wrong.items wrong → AreWrongAt steps most (positions_in wrong) hits → AreWrongHits history most hits
wrong_hits history steps are owners most wrong hits own turned told = record {
  each = All-weaker (IsWrongAt steps most) (IsWrongHit history most) (λ w is. record {
    puts = is.excluded;
    none = reads_none history steps are w.hit is.excluded is.all;
    first = is.first;
    late = is.late history are;
  }) hits told.each;
  all = λ hit none.
      let is = refused_of history steps are hit none in
      let listed = (turned.same hit).0 (own.wrong.all hit (slice_get_within steps hit is.step is.at) is) in
      subst (λ ps. Contains ps hit) (sym told.same) listed;
  order = subst (λ ps. AllPairs (IsEarlierBy (end_at history)) ps) (sym told.same) (pairs_from_at (IsEarlierBy (end_at history)) (positions_in wrong) (λ i j p q less one other.
      ends_earlier history steps are p q (pair_at (IsEarlierBy (stamp_at End steps)) (positions_in wrong) i j p q turned.order less one other)));
}
