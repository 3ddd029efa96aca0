-- What is found, of calls in numbers.
use Rattle.std.proofs.Common.{◌≡◌, ◌≢◌, ℕ, ◌<◌, true, false, eqb, List, [], length, sym, ap, ◌∙◌, subst, arith, inl, inr}
use Rattle.std.specs.Prelude.{All, AllPairs}
use Rattle.std.proofs.lemmas.Bool.Decides.{nat_tests}
use Rattle.std.proofs.lemmas.List.{nil_from_length}
use Rattle.std.proofs.lemmas.Option.{slice_get_within}
use Rattle.trace_file.specs.declared.call.Call.{Call}
use Rattle.certificate_finder.specs.declared.crossing.Crossing.{Crossing}
use Rattle.certificate_finder.specs.declared.found.Found.TheVariants.{Rejected}
use Rattle.certificate_finder.specs.declared.numbered_call.NumberedCall.{NumberedCall}
use Rattle.certificate_finder.specs.declared.owning.Owners.{Owners}
use Rattle.certificate_finder.specs.declared.zone.Zone.{Zone}
use Rattle.certificate_finder.specs.Finding.{AreForward, IsFound}
use Rattle.certificate_finder.specs.Owning.{AreKnownOwners, AreOwners, AreSingle, AreSureOwners}
use Rattle.certificate_finder.specs.Steps.{AreSteps}
use Rattle.certificate_finder.specs.Zones.{AreCrossing, AreCrossings, AreZones, FollowOn, crossed_by}
use Rattle.certificate_finder.proofs.CrossingLemmas.{follow_if_none}
use Rattle.certificate_finder.proofs.EndLemmas.{found_at}
use Rattle.certificate_finder.proofs.FaultLemmas.{some_read}
use Rattle.certificate_finder.proofs.FindLemmas.{are_crossed}
use Rattle.certificate_finder.proofs.Listing.{all_from_at}

-- owners are positions
pub owners_in : (steps : List NumberedCall) (owners : List ℕ) → AreOwners steps owners → All (λ owner. owner < length steps) owners
owners_in steps owners own = all_from_at (λ owner. owner < length steps) owners (λ p owner at.
    let within = slice_get_within owners p owner at in
    let count = own.count in
    let s = found_at steps p (omega arith) in
    elim (own.owned p s.0 owner s.1 at) [
      | inl alone ↦ let same = alone.0 in omega arith
      | inr hit ↦ slice_get_within steps owner hit.1.put hit.1.at
    ])

-- sure owners are single
pub single_sure : (steps : List NumberedCall) (owners unsure : List ℕ) → AreSureOwners steps (length steps) owners unsure → AreSingle steps owners
single_sure steps owners unsure own = record {
  count = own.count;
  owned = λ p step owner at owner_at. elim (own.owned p step owner at owner_at) [
    | inl alone ↦ inl alone.0
    | inr hit ↦ inr hit
  ];
}

pub single_known : (steps : List NumberedCall) (owners : Owners) → AreKnownOwners steps (length steps) owners → AreSingle steps owners.owners.items
single_known steps owners own = record {
  count = own.count;
  owned = λ p step owner at owner_at. elim (own.owned p step owner at owner_at) [
    | inl sure_one ↦ elim sure_one [
      | inl alone ↦ inl alone.0
      | inr hit ↦ inr hit
    ]
    | inr wrong ↦ inl wrong.0
  ];
}

pub single_owners_in : (steps : List NumberedCall) (owners : List ℕ) → AreSingle steps owners → All (λ owner. owner < length steps) owners
single_owners_in steps owners own = all_from_at (λ owner. owner < length steps) owners (λ p owner at.
    let within = slice_get_within owners p owner at in
    let count = own.count in
    let s = found_at steps p (omega arith) in
    elim (own.owned p s.0 owner s.1 at) [
      | inl same ↦ omega arith
      | inr hit ↦ slice_get_within steps owner hit.1.put hit.1.at
    ])

-- two zones that are crossed are a reason
pub found_crossed : (history : List Call) (steps : List NumberedCall) (owners unsure : List ℕ) (zones : List Zone) (crossing : Crossing) → AreSteps history steps → AreSureOwners steps (length steps) owners unsure → AreZones steps owners zones → AreCrossing zones crossing → AreForward history → IsFound history (Rejected (crossed_by crossing))
found_crossed history steps owners unsure zones crossing are own zs crossed forward = record {
  accepted = tt;
  rejected = are_crossed history steps are owners (single_sure steps owners unsure own) zones zs crossing.one crossing.other crossed;
  first = (forward, some_read history steps are owners unsure own);
  undecided = tt;
}

-- some hits are left if the list of them is not empty
pub some_left : (unsure lent : List ℕ) → lent ≡ unsure → false ≡ eqb (length lent) 0 → unsure ≢ []
some_left unsure lent same some none =
    let l : length lent ≡ 0 = ap length (same ∙ none) in
    let e : eqb (length lent) 0 ≡ true = grind (arith, nat_tests) in
    let h : false ≡ true = some ∙ e in
    cc

-- a list is empty if a test says so
pub no_items : {X : Type 0} (items lent : List X) → lent ≡ items → true ≡ eqb (length lent) 0 → length items ≡ 0
no_items items lent same none =
    let l : length lent ≡ 0 = grind (arith, nat_tests) in
    sym (ap length same) ∙ l

-- and not empty if the test says so
pub some_items : {X : Type 0} (items lent : List X) → lent ≡ items → false ≡ eqb (length lent) 0 → 0 < length items
some_items items lent same some =
    let l : 0 < length lent = grind (arith, nat_tests) in
    subst (λ xs. 0 < length xs) same l

pub none_left : (items lent : List ℕ) → lent ≡ items → true ≡ eqb (length lent) 0 → items ≡ []
none_left items lent same none = nil_from_length items (no_items items lent same none)

-- zones follow on, if none are listed as crossed
pub follow_on : (steps : List NumberedCall) (owners : List ℕ) (zones lent : List Zone) (crossings crossed : List Crossing) → lent ≡ zones → AreZones steps owners zones → AreCrossings lent crossings → crossed ≡ crossings → true ≡ eqb (length crossed) 0 → AllPairs FollowOn lent
follow_on steps owners zones lent crossings crossed same zs are told none =
    let own = subst (λ z. AreZones steps owners z) (sym same) zs in
    follow_if_none lent own.sorted own.fit own.distinct crossings are (no_items crossings crossed told none)

-- sure owners are owners, if there is one for each hit
pub owners_of_sure : (steps : List NumberedCall) (owners : List ℕ) → AreSureOwners steps (length steps) owners [] → AreOwners steps owners
owners_of_sure steps owners own = record {
  count = own.count;
  owned = λ p step owner at owner_at. elim (own.owned p step owner at owner_at) [
    | inl alone ↦ inl (
      alone.0,
      λ hit.
          let none = own.all p (slice_get_within steps p step at) (record { step = step; at = at; kind = hit; several = alone.1 hit }) in
          let less : none.0 < 0 = none.1 in
          omega arith,
    )
    | inr only ↦ inr (only.0, record { put = only.1.put; at = only.1.at; reads = only.1.reads })
  ];
}

-- each hit is sure if the list of the others is empty
pub sure : (steps : List NumberedCall) (owners unsure lent : List ℕ) → lent ≡ unsure → true ≡ eqb (length lent) 0 → AreSureOwners steps (length steps) owners unsure → AreOwners steps owners
sure steps owners unsure lent same none own = owners_of_sure steps owners (subst (λ u. AreSureOwners steps (length steps) owners u) (none_left unsure lent same none) own)
