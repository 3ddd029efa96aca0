-- If no zones are crossed and each hit can have read a put, there is no reason but hits that would cross two writes whichever put they read.
use Rattle.std.proofs.Common.{◌≡◌, ◌≢◌, ℕ, ◌<◌, ◌≤◌, Some, List, [], length, sym, ap, ◌∙◌, subst, arith, inl, inr}
use Rattle.std.specs.Prelude.{All, slice_get, map, IsSomeAnd, IsTrue}
use Rattle.std.proofs.lemmas.List.Elements.{All-weaker}
use Rattle.std.proofs.lemmas.Option.{slice_get_within, same_Some}
use Rattle.record_pages.specs.Expiry.{is_live}
use Rattle.trace_file.specs.Calls.{time_of}
use Rattle.trace_file.specs.declared.act.Act.TheVariants.{Put, Hit}
use Rattle.trace_file.specs.declared.call.Call.{Call}
use Rattle.certificate_checker.specs.Orders.{Precedes}
use Rattle.certificate_checker.proofs.public_laws.Laying.{cases_before}
use Rattle.certificate_checker.proofs.public_laws.Listing.{all_member, member_contained, member_map}
use Rattle.certificate_checker.proofs.public_laws.Lookups.{some_and}
use Rattle.certificate_finder.specs.declared.excluded.Excluded.{Excluded}
use Rattle.certificate_finder.specs.declared.faults.CrossedWrites.{CrossedWrites}
use Rattle.certificate_finder.specs.declared.numbered_call.NumberedCall.{NumberedCall}
use Rattle.certificate_finder.specs.declared.witness.Side.{Side}
use Rattle.certificate_finder.specs.declared.witness.Witness.{Witness}
use Rattle.certificate_finder.specs.declared.witness.Witness.TheVariants as witnesses
use Rattle.certificate_finder.specs.declared.zone.Zone.{Zone}
use Rattle.certificate_finder.specs.Finding.{AreUndecided}
use Rattle.certificate_finder.specs.Owning.{AreSureOwners, IsUnsure}
use Rattle.certificate_finder.specs.Reads.{CouldRead, HasBegun, HasSeveral, LivesFor, StandsBetween}
use Rattle.trace_file.specs.Kinds.{kind_of}
use Rattle.certificate_finder.specs.Steps.{AreSteps}
use Rattle.certificate_finder.specs.Trying.{HasStuckKey}
use Rattle.certificate_finder.specs.Witnesses.{AreCrossed, AreCrossedIfRead, GoesIfRead, GoesWith, IsExcluded, IsSide, IsUnread, IsWitness, ReadsNone}
use Rattle.certificate_finder.specs.Zones.{AreUncrossed, FollowOn, Goes, TellsZone}
use Rattle.certificate_finder.proofs.EndLemmas.{found_at}
use Rattle.certificate_finder.proofs.Excluding.{not_this}
use Rattle.certificate_finder.proofs.FindLemmas.{could_of, goes_with, has_several, several_of, step_at}
use Rattle.certificate_finder.proofs.FoundLemmas.{single_sure}
use Rattle.certificate_finder.proofs.Listing.{all_at, index_of, pair_at, same_at}
use Rattle.certificate_finder.proofs.TryingLemmas.{ends_by, starts_by, zone_of}

-- a put is live for a hit, whichever way the two were found
live_of : (history : List Call) (hit put : ℕ) (lives : LivesFor history hit put) (has : HasBegun history hit put) → IsTrue (is_live has.expires has.moment)
live_of history hit put lives has =
    let own = lives.has in
    let hits : own.hit_call ≡ has.hit_call = same_Some own.hit_call has.hit_call (sym own.hit_at ∙ has.hit_at) in
    let puts : own.put_call ≡ has.put_call = same_Some own.put_call has.put_call (sym own.put_at ∙ has.put_at) in
    let moment : own.moment ≡ has.moment = sym (ap time_of own.hit_is) ∙ ap (λ (c : Call). time_of c.act) hits ∙ ap time_of has.hit_is in
    let expires : own.expires ≡ has.expires = sym (ap time_of own.put_is) ∙ ap (λ (c : Call). time_of c.act) puts ∙ ap time_of has.put_is in
    subst (λ e. IsTrue (is_live e has.moment)) expires (subst (λ m. IsTrue (is_live own.expires m)) moment lives.live)

-- a hit that can have read none of its puts could read none
none_read : (history : List Call) (hit put : ℕ) (puts : List Excluded) → ReadsNone history hit puts → ¬ CouldRead history hit put
none_read history hit put puts none could =
    let has = could.stands.has in
    let same : has.hit_call ≡ none.call = same_Some has.hit_call none.call (sym has.hit_at ∙ none.at) in
    let acts : Hit has.value has.moment ≡ Hit none.value none.moment = sym has.hit_is ∙ ap (λ (c : Call). c.act) same ∙ none.is in
    let value : has.value ≡ none.value = cc in
    let moment : has.moment ≡ none.moment = cc in
    let put_is : has.put_call.act ≡ Put none.value has.expires = has.put_is ∙ ap (λ v. Put v has.expires) value in
    let key : has.put_call.key ≡ none.call.key = has.one_key ∙ ap (λ (c : Call). c.key) same in
    let listed = member_map (λ (one : Excluded). one.put) puts put (member_contained (map (λ (one : Excluded). one.put) puts) put (none.all put has.put_call has.expires has.put_at put_is key)) in
    let excluded = all_member (IsExcluded history none.call none.value none.moment) puts listed.0 none.excluded listed.1 in
    let begun = subst (λ (c : Call). ¬ Precedes c has.put_call) same has.begun in
    let stands = subst (λ (c : Call). All (λ call. ¬ StandsBetween c.key has.put_call c call) history) same could.stands.stands in
    let live = subst (λ m. IsTrue (is_live has.expires m)) moment (live_of history hit put could.lives has) in
    not_this history none.call has.put_call none.value none.moment has.expires put has.put_at put_is begun live stands listed.0 listed.2 excluded

-- if a hit goes with a put, what it would cross if it read the put is crossed
crossed_anyway : (history : List Call) (hit : ℕ) (writes : CrossedWrites) → GoesWith history writes.one.write hit → AreCrossedIfRead (GoesWith history) history hit writes → AreCrossed history writes.one writes.other
crossed_anyway history hit writes with c =
    let goes : (call : ℕ) → GoesIfRead (GoesWith history) hit writes.one.write call → GoesWith history writes.one.write call = λ call read. elim read [
      | inl same ↦ subst (GoesWith history writes.one.write) (sym same) with
      | inr anyway ↦ anyway
    ] in
    record {
      key = c.key;
      apart = c.apart;
      first = record { writes = c.one_writes; early_goes = goes writes.one.early c.one_early; late_goes = goes writes.one.late c.one_late; precedes = c.forth };
      second = record { writes = c.other_writes; early_goes = c.other_early; late_goes = c.other_late; precedes = c.back };
    }

module _ (history : List Call) (steps : List NumberedCall) (are : AreSteps history steps) (owners unsure : List ℕ) (own : AreSureOwners steps (length steps) owners unsure) where
  -- ---- calls that go with a write

  owner_of : (p : ℕ) (step : NumberedCall) → slice_get steps p ≡ Some step → (owner : ℕ) × (slice_get owners p ≡ Some owner)
  owner_of p step at =
      let within = slice_get_within steps p step at in
      let count = own.count in
      found_at owners p (omega arith)

  -- what goes with a write in words goes with it in numbers
  pub goes_back : (write q : ℕ) → GoesWith history write q → Goes owners write q
  goes_back write q goes = elim goes [
    | inl same ↦ inl same
    | inr hit ↦
        let s = step_at history steps are q hit.0 hit.3 in
        let o = owner_of q s.0 s.1 in
        let kind = s.2.kind ∙ ap kind_of hit.4 in
        elim (own.owned q s.0 o.0 s.1 o.1) [
          | inl alone ↦
              let two = has_several history steps are q (record { step = s.0; at = s.1; kind = kind; several = alone.1 kind }) in
              absurd (two.apart (hit.5 two.one two.first ∙ sym (hit.5 two.other two.second)))
          | inr only ↦ inr (o.1 ∙ ap Some (hit.5 o.0 (could_of history steps are q o.0 s.0 s.1 kind only.1)))
        ]
  ]

  -- each hit can have read a put
  some_read : (hit : ℕ) (puts : List Excluded) → ¬ ReadsNone history hit puts
  some_read hit puts none =
      let s = step_at history steps are hit none.call none.at in
      let o = owner_of hit s.0 s.1 in
      let kind = s.2.kind ∙ ap kind_of none.is in
      elim (own.owned hit s.0 o.0 s.1 o.1) [
        | inl alone ↦
            let two = has_several history steps are hit (record { step = s.0; at = s.1; kind = kind; several = alone.1 kind }) in
            none_read history hit two.one puts none two.first
        | inr only ↦ none_read history hit o.0 puts none (could_of history steps are hit o.0 s.0 s.1 kind only.1)
      ]

  -- a hit that would cross two writes whichever put it read can have read several, or two writes are crossed anyway
  pub unread_several : ((one other : Side) → ¬ AreCrossed history one other) → (hit : ℕ) (reads : List CrossedWrites) → IsUnread history hit reads → HasSeveral history hit
  unread_several uncrossed hit reads is =
      let s = step_at history steps are hit is.call is.at in
      let o = owner_of hit s.0 s.1 in
      let kind = s.2.kind ∙ ap kind_of is.is in
      elim (own.owned hit s.0 o.0 s.1 o.1) [
        | inl alone ↦ has_several history steps are hit (record { step = s.0; at = s.1; kind = kind; several = alone.1 kind })
        | inr only ↦
            let could = could_of history steps are hit o.0 s.0 s.1 kind only.1 in
            let listed = member_map (λ (writes : CrossedWrites). writes.one.write) reads o.0 (member_contained (map (λ (writes : CrossedWrites). writes.one.write) reads) o.0 (is.all o.0 could)) in
            let c = all_member (AreCrossedIfRead (GoesWith history) history hit) reads listed.0 is.each listed.1 in
            let with = goes_with history steps are owners listed.0.one.write hit s.0 (single_sure steps owners unsure own) s.1 (inr (o.1 ∙ ap Some listed.2)) in
            absurd (uncrossed listed.0.one listed.0.other (crossed_anyway history hit listed.0 with c))
      ]

  -- ---- no two writes are crossed

  module _ (un : AreUncrossed steps owners) where
    -- if one side's zone stands first, no call of the other side precedes one of it
    in_order : (key : List ℕ) (one other : Side) (s t : NumberedCall) (v w : Zone) (i j : ℕ) → i < j → slice_get un.zones i ≡ Some v → slice_get un.zones j ≡ Some w → v.key ≡ w.key → TellsZone steps owners one.write s v → TellsZone steps owners other.write t w → Goes owners one.write one.late → Goes owners other.write other.early → ¬ IsSide history key other one
    in_order key one other s t v w i j less at_i at_j keys tells others late_goes early_goes second =
        let fits = pair_at FollowOn un.zones i j v w un.follow less at_i at_j keys in
        let early = some_and (slice_get history other.early) (λ early. IsSomeAnd (slice_get history one.late) (λ late. Precedes early late)) second.precedes in
        let late = some_and (slice_get history one.late) (λ late. Precedes early.0 late) early.2 in
        let a = ends_by history steps are owners un.zones un.are_zones other.write other.early t w early.0 others early_goes early.1 in
        let b = starts_by history steps are owners un.zones un.are_zones one.write one.late s v late.0 tells late_goes late.1 in
        let c = late.2 in
        omega arith

    pub not_crossed : (one other : Side) → ¬ AreCrossed history one other
    not_crossed one other c =
        let v = zone_of history steps are owners un.zones un.are_zones c.key one.write c.first.writes in
        let w = zone_of history steps are owners un.zones un.are_zones c.key other.write c.second.writes in
        let i = index_of un.zones v.5.item v.5.listed in
        let j = index_of un.zones w.5.item w.5.listed in
        let alike = are.alike one.write other.write v.0 w.0 v.1 w.1 v.2 w.2 v.3 w.3 in
        let keys : v.5.item.key ≡ w.5.item.key = v.5.told.key ∙ alike.keys.1 (v.4 ∙ sym w.4) ∙ sym w.5.told.key in
        elim (cases_before i.0 j.0) [
          | inl less ↦ in_order c.key one other v.1 w.1 v.5.item w.5.item i.0 j.0 less i.1 j.1 keys v.5.told w.5.told (goes_back one.write one.late c.first.late_goes) (goes_back other.write other.early c.second.early_goes) c.second
          | inr rest ↦ elim rest [
            | inl same ↦ c.apart (sym v.5.told.write ∙ ap (λ (z : Zone). z.write) (same_at un.zones i.0 j.0 v.5.item w.5.item same i.1 j.1) ∙ w.5.told.write)
            | inr less ↦ in_order c.key other one w.1 v.1 w.5.item v.5.item j.0 i.0 less j.1 i.1 (sym keys) w.5.told v.5.told (goes_back other.write other.late c.second.late_goes) (goes_back one.write one.early c.first.early_goes) c.first
          ]
        ]

    settled : All (λ call. call.start ≤ call.end) history → ((hit : ℕ) (reads : List CrossedWrites) → ¬ IsUnread history hit reads) → (witness : Witness) → ¬ IsWitness history witness
    settled intervals read (witnesses.Interval position) h =
        let found = some_and (slice_get history position) (λ call. call.end < call.start) h in
        let enough = all_at (λ (c : Call). c.start ≤ c.end) history position found.0 intervals found.1 in
        let less = found.2 in
        omega arith
    settled intervals read (witnesses.Hit hit puts) h = some_read hit puts.items h
    settled intervals read (witnesses.Crossed one other) h = not_crossed one other h
    settled intervals read (witnesses.Unread unread) h = read unread.hit unread.reads.items h

    -- ---- nothing was decided

    pub undecided : All (λ call. call.start ≤ call.end) history → unsure ≢ [] → HasStuckKey history → ((hit : ℕ) (reads : List CrossedWrites) → ¬ IsUnread history hit reads) → AreUndecided history unsure
    undecided intervals some none read = record {
      some = some;
      each = All-weaker (IsUnsure steps) (HasSeveral history) (λ h is. has_several history steps are h is) unsure own.are_unsure;
      all = λ h has. let is = several_of history steps are h has in own.all h (slice_get_within steps h is.step is.at) is;
      rise = own.rise;
      settled = settled intervals read;
      tried = none;
    }
