-- The crossed writes of each key, of calls in numbers and of their history.
use Rattle.std.proofs.Common.{◌≡◌, ◌≢◌, ℕ, ◌<◌, Some, List, [], length, refl, sym, ap, ◌∙◌, subst, arith}
use Rattle.std.specs.Prelude.{Contains, map, slice_get, IsSomeAnd}
use Rattle.std.specs.Option.{option_map, option_map_or}
use Rattle.std.proofs.lemmas.List.{length-map}
use Rattle.std.proofs.lemmas.List.Elements.{All-contains}
use Rattle.std.proofs.lemmas.Option.{slice_get-map, slice_get_within}
use Rattle.trace_file.specs.declared.call.Call.{Call}
use Rattle.certificate_checker.specs.Orders.{Precedes}
use Rattle.certificate_checker.proofs.public_laws.Lookups.{some_and}
use Rattle.certificate_finder.specs.declared.crossing.Crossing.{Crossing}
use Rattle.certificate_finder.specs.declared.faults.CrossedWrites.{CrossedWrites}
use Rattle.certificate_finder.specs.declared.numbered_call.NumberedCall.{NumberedCall}
use Rattle.certificate_finder.specs.declared.owning.Owners.{Owners}
use Rattle.certificate_finder.specs.declared.witness.Side.{Side}
use Rattle.certificate_finder.specs.declared.zone.Zone.{Zone}
use Rattle.certificate_finder.specs.Faults.{AreCrossedWrites, key_at, keys_in}
use Rattle.certificate_finder.specs.Lists.{TellsOne}
use Rattle.certificate_finder.specs.Owning.{AreKnownOwners}
use Rattle.certificate_finder.specs.Steps.{AreSteps}
use Rattle.certificate_finder.specs.Trying.{AreCrossedBy}
use Rattle.certificate_finder.specs.Witnesses.{AreCrossed}
use Rattle.certificate_finder.specs.Writing.{Writing}
use Rattle.certificate_finder.specs.Zones.{AreCrossedIn, AreCrossing, AreZones, TellsZone, writes_of}
use Rattle.certificate_finder.proofs.CrossingLemmas.{keys_of}
use Rattle.certificate_finder.proofs.EndLemmas.{found_at}
use Rattle.certificate_finder.proofs.FindLemmas.{are_crossed, call_at}
use Rattle.certificate_finder.proofs.FoundLemmas.{single_known}
use Rattle.certificate_finder.proofs.Listing.{all_at, all_from_at, contains_at, index_of, pair_at, pairs_from_at, same_at}
use Rattle.certificate_finder.proofs.TryingLemmas.{are_sure, crossed_by_choice, ends_by, starts_by, zone_of}

-- the key of a call that is known
key_is : (history : List Call) (p : ℕ) (call : Call) → slice_get history p ≡ Some call → key_at history p ≡ call.key
key_is history p call at = ap (λ o. option_map_or (λ (c : Call). c.key) o []) at

-- what is mapped, and where
mapped : (crossings : List Crossing) (k : ℕ) (writes : CrossedWrites) → slice_get (map writes_of crossings) k ≡ Some writes → (crossing : Crossing) × (slice_get crossings k ≡ Some crossing) × (writes_of crossing ≡ writes)
mapped crossings k writes at =
    let within = slice_get_within (map writes_of crossings) k writes at in
    let count : length (map writes_of crossings) ≡ length crossings = length-map crossings writes_of in
    let c = found_at crossings k (omega arith) in
    let here : slice_get (map writes_of crossings) k ≡ Some (writes_of c.0) = slice_get-map writes_of crossings k ∙ ap (option_map writes_of) c.1 in
    (c.0, c.1, same_at (map writes_of crossings) k k (writes_of c.0) writes refl here at)

module _ (history : List Call) (steps : List NumberedCall) (are : AreSteps history steps) (owners : List ℕ) (zones : List Zone) (zs : AreZones steps owners zones) where
  -- the write of a zone
  write_of_zone : (zone : Zone) → Contains zones zone → (call : Call) × (step : NumberedCall) × (slice_get history zone.write ≡ Some call) × (slice_get steps zone.write ≡ Some step) × (zone.key ≡ step.key)
  write_of_zone zone listed =
      let t = All-contains (TellsOne steps Writing (TellsZone steps owners)) zones zone zs.lists.sound listed in
      let c = call_at history steps are t.position t.step t.at in
      (c.0, t.step, ap (slice_get history) t.told.write ∙ c.1, ap (slice_get steps) t.told.write ∙ t.at, t.told.key)

  -- zones of one key are of writes of one key, and back
  keys_alike : (one other : Zone) → Contains zones one → Contains zones other → key_at history one.write ≡ key_at history other.write → one.key ≡ other.key
  keys_alike one other one_listed other_listed same =
      let v = write_of_zone one one_listed in
      let w = write_of_zone other other_listed in
      let alike = are.alike one.write other.write v.0 w.0 v.1 w.1 v.2 w.2 v.3 w.3 in
      v.4 ∙ alike.keys.1 (sym (key_is history one.write v.0 v.2) ∙ same ∙ key_is history other.write w.0 w.2) ∙ sym w.4

  keys_same : (one other : Zone) → Contains zones one → Contains zones other → one.key ≡ other.key → key_at history one.write ≡ key_at history other.write
  keys_same one other one_listed other_listed same =
      let v = write_of_zone one one_listed in
      let w = write_of_zone other other_listed in
      let alike = are.alike one.write other.write v.0 w.0 v.1 w.1 v.2 w.2 v.3 w.3 in
      key_is history one.write v.0 v.2 ∙ alike.keys.0 (sym v.4 ∙ same ∙ w.4) ∙ sym (key_is history other.write w.0 w.2)

  -- writes that are crossed have zones that are
  crossed_zones : (one other : Side) (crossed : AreCrossedBy history owners one other) → (crossing : Crossing) × AreCrossing zones crossing × (key_at history crossing.one.write ≡ crossed.key)
  crossed_zones one other crossed =
      let v = zone_of history steps are owners zones zs crossed.key one.write crossed.first.writes in
      let w = zone_of history steps are owners zones zs crossed.key other.write crossed.second.writes in
      let alike = are.alike one.write other.write v.0 w.0 v.1 w.1 v.2 w.2 v.3 w.3 in
      let keys : v.5.item.key ≡ w.5.item.key = v.5.told.key ∙ alike.keys.1 (v.4 ∙ sym w.4) ∙ sym w.5.told.key in
      let one_early = some_and (slice_get history one.early) (λ early. IsSomeAnd (slice_get history other.late) (λ late. Precedes early late)) crossed.first.precedes in
      let other_late = some_and (slice_get history other.late) (λ late. Precedes one_early.0 late) one_early.2 in
      let other_early = some_and (slice_get history other.early) (λ early. IsSomeAnd (slice_get history one.late) (λ late. Precedes early late)) crossed.second.precedes in
      let one_late = some_and (slice_get history one.late) (λ late. Precedes other_early.0 late) other_early.2 in
      let a = ends_by history steps are owners zones zs one.write one.early v.1 v.5.item one_early.0 v.5.told crossed.first.early_goes one_early.1 in
      let b = starts_by history steps are owners zones zs other.write other.late w.1 w.5.item other_late.0 w.5.told crossed.second.late_goes other_late.1 in
      let c = ends_by history steps are owners zones zs other.write other.early w.1 w.5.item other_early.0 w.5.told crossed.second.early_goes other_early.1 in
      let d = starts_by history steps are owners zones zs one.write one.late v.1 v.5.item one_late.0 v.5.told crossed.first.late_goes one_late.1 in
      let e = other_late.2 in
      let f = one_late.2 in (
        record { one = v.5.item; other = w.5.item },
        record {
          one_listed = v.5.listed;
          other_listed = w.5.listed;
          key = keys;
          apart = λ same. crossed.apart (sym v.5.told.write ∙ same ∙ w.5.told.write);
          forth = omega arith;
          back = omega arith;
        },
        ap (key_at history) v.5.told.write ∙ key_is history one.write v.0 v.2 ∙ v.4,
      )

-- of each key with crossed writes two, by its sure owners
pub crossed_writes : (history : List Call) (steps : List NumberedCall) (are : AreSteps history steps) (owners : Owners) (crossed : List CrossedWrites) → AreKnownOwners steps (length steps) owners → AreCrossedIn steps owners.owners.items crossed → AreCrossedWrites history crossed
crossed_writes history steps are owners crossed own is =
    let single = single_known steps owners own in
    subst (λ cs. AreCrossedWrites history cs) (sym is.told) (record {
      owners = owners.owners.items;
      sure = are_sure history steps are owners.owners.items own.count own.owned;
      each = all_from_at (λ (w : CrossedWrites). AreCrossed history w.one w.other) (map writes_of is.crossings) (λ k w at.
          let m = mapped is.crossings k w at in
          subst (λ (x : CrossedWrites). AreCrossed history x.one x.other) m.2 (are_crossed history steps are owners.owners.items single is.zones is.are_zones m.0.one m.0.other (all_at (AreCrossing is.zones) is.crossings k m.0 is.are.each m.1)));
      by_sure = all_from_at (λ (w : CrossedWrites). AreCrossedBy history owners.owners.items w.one w.other) (map writes_of is.crossings) (λ k w at.
          let m = mapped is.crossings k w at in
          subst (λ (x : CrossedWrites). AreCrossedBy history owners.owners.items x.one x.other) m.2 (crossed_by_choice history steps are owners.owners.items is.zones is.are_zones m.0.one m.0.other (all_at (AreCrossing is.zones) is.crossings k m.0 is.are.each m.1)));
      all = λ one other writes.
          let zones = crossed_zones history steps are owners.owners.items is.zones is.are_zones one other writes in
          let listed = is.are.all zones.0.one.key (record { crossing = zones.0; crossed = zones.1; of_key = refl }) in
          let k = index_of (keys_of is.crossings) zones.0.one.key listed in
          let within = slice_get_within (keys_of is.crossings) k.0 zones.0.one.key k.1 in
          let count : length (keys_of is.crossings) ≡ length is.crossings = length-map is.crossings (λ (c : Crossing). c.one.key) in
          let c = found_at is.crossings k.0 (omega arith) in
          let there : slice_get (keys_of is.crossings) k.0 ≡ Some c.0.one.key = slice_get-map (λ (x : Crossing). x.one.key) is.crossings k.0 ∙ ap (option_map (λ (x : Crossing). x.one.key)) c.1 in
          let same : c.0.one.key ≡ zones.0.one.key = same_at (keys_of is.crossings) k.0 k.0 c.0.one.key zones.0.one.key refl there k.1 in
          let crossing = all_at (AreCrossing is.zones) is.crossings k.0 c.0 is.are.each c.1 in
          let key = keys_same history steps are owners.owners.items is.zones is.are_zones c.0.one zones.0.one crossing.one_listed zones.1.one_listed same ∙ zones.2 in
          let told : slice_get (map writes_of is.crossings) k.0 ≡ Some (writes_of c.0) = slice_get-map writes_of is.crossings k.0 ∙ ap (option_map writes_of) c.1 in
          let at : slice_get (keys_in history (map writes_of is.crossings)) k.0 ≡ Some (key_at history c.0.one.write) = slice_get-map (λ (w : CrossedWrites). key_at history w.one.write) (map writes_of is.crossings) k.0 ∙ ap (option_map (λ (w : CrossedWrites). key_at history w.one.write)) told in
          contains_at (keys_in history (map writes_of is.crossings)) k.0 writes.key (at ∙ ap Some key);
      once = pairs_from_at (λ (a b : CrossedWrites). key_at history a.one.write ≢ key_at history b.one.write) (map writes_of is.crossings) (λ i j a b less at_i at_j same.
          let m = mapped is.crossings i a at_i in
          let n = mapped is.crossings j b at_j in
          let rises = pair_at (λ (x y : Crossing). x.one.key < y.one.key) is.crossings i j m.0 n.0 is.are.rise less m.1 n.1 in
          let one = all_at (AreCrossing is.zones) is.crossings i m.0 is.are.each m.1 in
          let other = all_at (AreCrossing is.zones) is.crossings j n.0 is.are.each n.1 in
          let keys = keys_alike history steps are owners.owners.items is.zones is.are_zones m.0.one n.0.one one.one_listed other.one_listed (ap (λ (w : CrossedWrites). key_at history w.one.write) m.2 ∙ same ∙ sym (ap (λ (w : CrossedWrites). key_at history w.one.write) n.2)) in
          absurd (omega arith));
    })
