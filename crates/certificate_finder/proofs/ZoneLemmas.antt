-- The zones of a history's writes.
use Rattle.std.proofs.Common.{◌≡◌, ℕ, Some, List, length, refl, ap, arith}
use Rattle.std.specs.Prelude.{All, slice_get}
use Rattle.std.specs.List.Sorted.{IsNonDecreasingBy, IsPermutation}
use Rattle.std.proofs.lemmas.List.Elements.{All-weaker}
use Rattle.certificate_finder.specs.declared.numbered_call.NumberedCall.{NumberedCall}
use Rattle.certificate_finder.specs.declared.zone.Zone.{Zone}
use Rattle.certificate_finder.specs.Lists.{Lists, TellsOne}
use Rattle.certificate_finder.specs.Steps.{IsFit}
use Rattle.certificate_finder.specs.Writing.{Writing}
use Rattle.certificate_finder.specs.Zones.{AreEarliest, AreLatest, AreDistinct, AreZones, IsFitZone, TellsZone, zone_rank}
use Rattle.certificate_finder.proofs.Listing.{all_at, distinct_permuted, lists_permuted, same_at}

pub tells_zone : (steps : List NumberedCall) (owners earliest latest : List ℕ) (position early late : ℕ) (step first last : NumberedCall) → AreEarliest steps owners earliest → AreLatest steps owners latest → slice_get earliest position ≡ Some early → slice_get latest position ≡ Some late → slice_get steps early ≡ Some first → slice_get steps late ≡ Some last → TellsZone steps owners position step (record { write = position; key = step.key; early = early; late = late; end = first.end; start = last.start })
tells_zone steps owners earliest latest position early late step first last es ls early_at late_at first_at last_at =
    let e = es.each position early early_at in
    let l = ls.each position late late_at in
    record {
      write = refl;
      key = refl;
      first = e.0;
      last = l.0;
      earliest = e.1;
      latest = l.1;
      end = ap (λ (s : NumberedCall). s.end) (same_at steps early early first e.0 refl first_at e.1.at);
      start = ap (λ (s : NumberedCall). s.start) (same_at steps late late last l.0 refl last_at l.1.at);
    }

pub are_zones : (steps : List NumberedCall) (owners : List ℕ) (xs ys : List Zone) → All IsFit steps → Lists steps Writing (TellsZone steps owners) (length steps) xs → AreDistinct xs → IsPermutation xs ys → IsNonDecreasingBy zone_rank ys → AreZones steps owners ys
are_zones steps owners xs ys fit had apart moved sorted =
    let lists = lists_permuted steps Writing (TellsZone steps owners) (length steps) xs ys moved had in
    record {
      lists = lists;
      sorted = sorted;
      distinct = distinct_permuted (λ (zone : Zone). zone.write) xs ys moved apart;
      fit = All-weaker (TellsOne steps Writing (TellsZone steps owners)) IsFitZone (λ z one.
          let f : IsFit one.told.first = all_at IsFit steps z.early one.told.first fit one.told.earliest.at in
          let l : IsFit one.told.last = all_at IsFit steps z.late one.told.last fit one.told.latest.at in
          let e : z.end ≡ one.told.first.end = one.told.end in
          let s : z.start ≡ one.told.last.start = one.told.start in
          let a = f.end in
          let b = l.start in
          record { end = omega arith; start = omega arith }) ys lists.sound;
    }
