-- What would be crossed if a hit read a put.
use Rattle.std.proofs.Common.{◌≡◌, ℕ, ◌<◌, ◌≤◌, Some, List, length, refl, sym, ap, ◌∙◌, subst, arith, inl, inr}
use Rattle.std.specs.Prelude.{All, Contains, slice_get}
use Rattle.std.proofs.lemmas.List.Elements.{All-contains}
use Rattle.std.proofs.lemmas.Option.{same_Some, slice_get_within}
use Rattle.certificate_finder.specs.declared.faults.CrossedWrites.{CrossedWrites}
use Rattle.certificate_finder.specs.declared.groups.Groups.{Groups}
use Rattle.certificate_finder.specs.declared.numbered_call.NumberedCall.{NumberedCall}
use Rattle.certificate_finder.specs.declared.witness.Side.{Side}
use Rattle.certificate_finder.specs.declared.zone.Zone.{Zone}
use Rattle.certificate_finder.specs.Lists.{Lists, TellsOne}
use Rattle.certificate_finder.specs.Offering.{AreGroups, IsLater, IsSooner}
use Rattle.certificate_finder.specs.Unreading.{GoesIf, IsCrossedIf, IsOpen, IsOther, IsSideIf, StartsLast}
use Rattle.certificate_finder.specs.Writing.{Writing}
use Rattle.certificate_finder.specs.Zones.{Goes, TellsZone, side_of}
use Rattle.certificate_finder.proofs.Listing.{same_at}

-- ---- the calls that would go with a put

module _ (steps : List NumberedCall) (groups : Groups) (are : AreGroups steps groups) (hit put : ℕ) (step : NumberedCall) (at : slice_get steps hit ≡ Some step) where
  record Earliest (early : ℕ) : Type 0 where
    call : NumberedCall
    found : slice_get steps early ≡ Some call
    goes : GoesIf groups.owners.items hit put early
    least : (q : ℕ) (other : NumberedCall) → slice_get steps q ≡ Some other → GoesIf groups.owners.items hit put q → call.end ≤ other.end

  earliest_if : (known early : ℕ) → slice_get groups.earliest.items put ≡ Some known → IsSooner steps known hit step early → Earliest early
  earliest_if known early known_at sooner =
      let e = are.earliest.each put known known_at in
      let best : sooner.0 ≡ e.0 = same_Some sooner.0 e.0 (sym sooner.1 ∙ e.1.at) in
      let end = ap (λ (s : NumberedCall). s.end) best in
      elim sooner.2 [
        | inl taken ↦ record {
          call = step;
          found = ap (slice_get steps) taken.1 ∙ at;
          goes = inl taken.1;
          least = λ q other at_q goes. elim goes [
            | inl same ↦ let it = ap (λ (s : NumberedCall). s.end) (same_at steps q hit other step same at_q at) in omega (arith, it)
            | inr with ↦ let le = e.1.least q other at_q with in let less = taken.0 in omega (arith, le, less, end)
          ];
        }
        | inr kept ↦ record {
          call = sooner.0;
          found = ap (slice_get steps) kept.1 ∙ sooner.1;
          goes = inr (subst (λ p. Goes groups.owners.items put p) (sym kept.1) e.1.goes);
          least = λ q other at_q goes. elim goes [
            | inl same ↦ let it = ap (λ (s : NumberedCall). s.end) (same_at steps q hit other step same at_q at) in let le = kept.0 in omega (arith, it, le)
            | inr with ↦ let le = e.1.least q other at_q with in omega (arith, le, end)
          ];
        }
      ]

  record Latest (late : ℕ) : Type 0 where
    call : NumberedCall
    found : slice_get steps late ≡ Some call
    goes : GoesIf groups.owners.items hit put late
    greatest : (q : ℕ) (other : NumberedCall) → slice_get steps q ≡ Some other → GoesIf groups.owners.items hit put q → other.start ≤ call.start

  latest_if : (known late : ℕ) → slice_get groups.latest.items put ≡ Some known → IsLater steps known hit step late → Latest late
  latest_if known late known_at later =
      let e = are.latest.each put known known_at in
      let best : later.0 ≡ e.0 = same_Some later.0 e.0 (sym later.1 ∙ e.1.at) in
      let start = ap (λ (s : NumberedCall). s.start) best in
      elim later.2 [
        | inl taken ↦ record {
          call = step;
          found = ap (slice_get steps) taken.1 ∙ at;
          goes = inl taken.1;
          greatest = λ q other at_q goes. elim goes [
            | inl same ↦ let it = ap (λ (s : NumberedCall). s.start) (same_at steps q hit other step same at_q at) in omega (arith, it)
            | inr with ↦ let le = e.1.greatest q other at_q with in let less = taken.0 in omega (arith, le, less, start)
          ];
        }
        | inr kept ↦ record {
          call = later.0;
          found = ap (slice_get steps) kept.1 ∙ later.1;
          goes = inr (subst (λ p. Goes groups.owners.items put p) (sym kept.1) e.1.goes);
          greatest = λ q other at_q goes. elim goes [
            | inl same ↦ let it = ap (λ (s : NumberedCall). s.start) (same_at steps q hit other step same at_q at) in let le = kept.0 in omega (arith, it, le)
            | inr with ↦ let le = e.1.greatest q other at_q with in omega (arith, le, start)
          ];
        }
      ]

  pub side_is : (known noted early late : ℕ) → slice_get groups.earliest.items put ≡ Some known → slice_get groups.latest.items put ≡ Some noted → IsSooner steps known hit step early → IsLater steps noted hit step late → IsSideIf steps groups.owners.items hit put (record { write = put; early = early; late = late })
  side_is known noted early late known_at noted_at sooner later =
      let e = earliest_if known early known_at sooner in
      let l = latest_if noted late noted_at later in
      record {
        write = refl;
        early = e.call;
        late = l.call;
        early_at = e.found;
        late_at = l.found;
        early_goes = e.goes;
        late_goes = l.goes;
        least = e.least;
        greatest = l.greatest;
      }

-- ---- a write that would be crossed with it

module _ (steps : List NumberedCall) (owners : List ℕ) (zones : List Zone) (lists : Lists steps Writing (TellsZone steps owners) (length steps) zones) (hit put : ℕ) (given first last : NumberedCall) (side : Side) (own : IsSideIf steps owners hit put side) (given_at : slice_get steps put ≡ Some given) (first_at : slice_get steps side.early ≡ Some first) (last_at : slice_get steps side.late ≡ Some last) where
  first_is : own.early.end ≡ first.end
  first_is = ap (λ (s : NumberedCall). s.end) (same_Some own.early first (sym own.early_at ∙ first_at))

  last_is : own.late.start ≡ last.start
  last_is = ap (λ (s : NumberedCall). s.start) (same_Some own.late last (sym own.late_at ∙ last_at))

  -- the zone of such a write
  record Crosses : Type 0 where
    zone : Zone
    listed : Contains zones zone
    is : IsOther given.key last.start put zone
    later : first.end < zone.start

  crosses : (writes : CrossedWrites) → IsCrossedIf steps owners hit put writes → Crosses
  crosses writes c =
      let told = lists.complete writes.other.write c.other (slice_get_within steps writes.other.write c.other c.other_at) c.other_at c.writing in
      let z = told.told in
      let same = ap (λ (s : NumberedCall). s.key) (same_Some c.given given (sym c.given_at ∙ given_at)) in
      let a = z.earliest.least writes.other.early c.other_early c.other_early_at c.other_early_goes in
      let b = z.latest.greatest writes.other.late c.other_late c.other_late_at c.other_late_goes in
      let d = own.least writes.one.early c.early c.early_at c.early_goes in
      let e = own.greatest writes.one.late c.late c.late_at c.late_goes in
      let forth = c.forth in
      let back = c.back in
      let end = z.end in
      let start = z.start in
      let f = first_is in
      let l = last_is in
      record {
        zone = told.item;
        listed = told.listed;
        is = record {
          of_key = z.key ∙ c.key ∙ same;
          ends = omega (arith, a, back, e, end, l);
          apart = λ w. c.apart (sym z.write ∙ w);
        };
        later = omega (arith, b, forth, d, start, f);
      }

  pub open_none : All (λ zone. ¬ IsOther given.key last.start put zone) zones → IsOpen steps owners hit put
  open_none none = λ writes c. let z = crosses writes c in All-contains (λ zone. ¬ IsOther given.key last.start put zone) zones z.zone none z.listed z.is

  pub open_some : (zone : Zone) → StartsLast zones given.key last.start put zone → zone.start ≤ first.end → IsOpen steps owners hit put
  open_some zone best le = λ writes c.
      let z = crosses writes c in
      let high = All-contains (λ other. IsOther given.key last.start put other → other.start ≤ zone.start) zones z.zone best.greatest z.listed z.is in
      let less = z.later in
      omega (arith, high, less, le)

  pub crossed_some : (zone : Zone) → StartsLast zones given.key last.start put zone → first.end < zone.start → IsCrossedIf steps owners hit put (record { one = side; other = side_of zone })
  crossed_some zone best less =
      let t = All-contains (TellsOne steps Writing (TellsZone steps owners)) zones zone lists.sound best.listed in
      let start = t.told.start in
      let end = t.told.end in
      let f = first_is in
      let l = last_is in
      let ends = best.is.ends in
      record {
        write = own.write;
        apart = best.is.apart;
        given = given;
        other = t.step;
        early = own.early;
        late = own.late;
        other_early = t.told.first;
        other_late = t.told.last;
        given_at = given_at;
        other_at = ap (slice_get steps) t.told.write ∙ t.at;
        early_at = own.early_at;
        late_at = own.late_at;
        other_early_at = t.told.earliest.at;
        other_late_at = t.told.latest.at;
        writing = t.is_wanted;
        key = sym t.told.key ∙ best.is.of_key;
        early_goes = own.early_goes;
        late_goes = own.late_goes;
        other_early_goes = subst (λ w. Goes owners w zone.early) (sym t.told.write) t.told.earliest.goes;
        other_late_goes = subst (λ w. Goes owners w zone.late) (sym t.told.write) t.told.latest.goes;
        forth = omega (arith, less, start, f);
        back = omega (arith, ends, end, l);
      }
