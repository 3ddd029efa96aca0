-- A history with a witness is accepted with no certificate.
use Rattle.std.proofs.Common.{◌≡◌, ℕ, ◌<◌, ◌≤◌, IsTrue, Some, List, sym, ap, ◌∙◌, subst, arith, inl, inr}
use Rattle.std.specs.Prelude.{slice_get, IsSomeAnd, All, map}
use Rattle.std.proofs.lemmas.Bool.{cases_lt}
use Rattle.record_pages.specs.Expiry.{is_live}
use Rattle.trace_file.specs.declared.act.Act.TheVariants.{Put, Hit}
use Rattle.trace_file.specs.declared.call.Call.{Call}
use Rattle.certificate_checker.specs.Acceptance.{IsAccepted}
use Rattle.certificate_checker.specs.Deeds.{deed_of}
use Rattle.certificate_checker.specs.Latest.{Writes}
use Rattle.certificate_checker.specs.Orders.{Precedes}
use Rattle.certificate_checker.proofs.public_laws.Laying.{cases_before}
use Rattle.certificate_checker.proofs.public_laws.Listing.{member_contained, member_map, all_member}
use Rattle.certificate_checker.proofs.public_laws.Lookups.{some_and}
use Rattle.certificate_finder.specs.declared.excluded.Excluded.{Excluded}
use Rattle.certificate_finder.specs.declared.excluded.Excuse.{Excuse}
use Rattle.certificate_finder.specs.declared.excluded.Excuse.TheVariants.{Later, Expired, Replaced}
use Rattle.certificate_finder.specs.declared.faults.CrossedWrites.{CrossedWrites}
use Rattle.certificate_finder.specs.declared.witness.Side.{Side}
use Rattle.certificate_finder.specs.declared.witness.Witness.{Witness}
use Rattle.certificate_finder.specs.declared.witness.Witness.TheVariants as witnesses
use Rattle.certificate_finder.specs.Reads.{StandsBetween}
use Rattle.certificate_finder.specs.Witnesses.{AreCrossed, AreCrossedIfRead, Excludes, GoesIfRead, GoesWith, IsExcluded, IsSide, IsUnread, IsWitness, ReadsNone}
use Rattle.certificate_finder.proofs.Reading.{all_at, no_write, agrees_at, placed_at, one_place, reads, begun, none_between, could_read}

-- what is read is not excluded
not_excused : (history : List Call) (hit put : Call) (moment expires : ℕ) → ¬ Precedes hit put → IsTrue (is_live expires moment) → All (λ call. ¬ StandsBetween hit.key put hit call) history → (why : Excuse) → Excludes history hit put moment expires why → ⊥
not_excused history hit put moment expires behind live stands Later h = behind h
not_excused history hit put moment expires behind live stands Expired h = h live
not_excused history hit put moment expires behind live stands (Replaced write) h =
    let found = some_and (slice_get history write) (StandsBetween hit.key put hit) h in
    all_at (λ call. ¬ StandsBetween hit.key put hit call) history write found.0 stands found.1 found.2

-- and is none of those that are excluded
pub not_this : (history : List Call) (hit put : Call) (value : List ℕ) (moment expires position : ℕ) → slice_get history position ≡ Some put → put.act ≡ Put value expires → ¬ Precedes hit put → IsTrue (is_live expires moment) → All (λ call. ¬ StandsBetween hit.key put hit call) history → (one : Excluded) → position ≡ one.put → ¬ IsExcluded history hit value moment one
not_this history hit put value moment expires position at is behind live stands one listed excluded =
    let both : Some excluded.put ≡ Some put = sym excluded.put_at ∙ ap (slice_get history) (sym listed) ∙ at in
    let same : excluded.put ≡ put = cc in
    let acts : Put value excluded.expires ≡ Put value expires = sym excluded.put_is ∙ ap (λ (c : Call). c.act) same ∙ is in
    let expiry : excluded.expires ≡ expires = cc in
    not_excused history hit put moment expires behind live stands one.why (subst (λ e. Excludes history hit put moment e one.why) expiry (subst (λ p. Excludes history hit p moment excluded.expires one.why) same excluded.why))

-- a write's place, and the place of a call that goes with it: no other write of the key stands from the one to the other
record Stretch (history : List Call) (certificate : List ℕ) (write call : ℕ) (key : List ℕ) : Type 0 where
  first : ℕ
  last : ℕ
  first_at : slice_get certificate first ≡ Some write
  last_at : slice_get certificate last ≡ Some call
  in_order : first ≤ last
  unwritten : (j q : ℕ) (other : Call) → first < j → j ≤ last → slice_get certificate j ≡ Some q → slice_get history q ≡ Some other → ¬ Writes (deed_of other) key

module _ (history : List Call) (certificate : List ℕ) (a : IsAccepted history certificate) where
  no_interval : (position : ℕ) (call : Call) → slice_get history position ≡ Some call → ¬ (call.end < call.start)
  no_interval position call at less =
      let enough = all_at (λ (c : Call). c.start ≤ c.end) history position call a.intervals at in omega (arith, enough, less)

  some_read : (hit : ℕ) (puts : List Excluded) → ¬ ReadsNone history hit puts
  some_read hit puts none =
      let place = placed_at history certificate a hit none.call none.at in
      let read = reads history certificate a place.0 hit none.call none.value none.moment place.1 none.at none.is in
      let from = begun history certificate a place.0 hit none.call none.value none.moment place.1 none.at none.is in
      let between = none_between history certificate a place.0 hit none.call none.value none.moment place.1 none.at none.is in
      let listed = member_map (λ (one : Excluded). one.put) puts read.position (member_contained (map (λ (one : Excluded). one.put) puts) read.position (none.all read.position read.put read.expires read.at read.is read.one_key)) in
      let excluded = all_member (IsExcluded history none.call none.value none.moment) puts listed.0 none.excluded listed.1 in
      not_this history none.call read.put none.value none.moment read.expires read.position read.at read.is from read.live between listed.0 listed.2 excluded

  -- a write and a hit that read it
  stretch_read : (key : List ℕ) (write : ℕ) (written : Call) (call : ℕ) (hit : Call) (value : List ℕ) (moment : ℕ) (place : ℕ) (at_place : slice_get certificate place ≡ Some call) (found : slice_get history call ≡ Some hit) (is : hit.act ≡ Hit value moment) → slice_get history write ≡ Some written → Writes (deed_of written) key → (reads history certificate a place call hit value moment at_place found is).position ≡ write → Stretch history certificate write call key
  stretch_read key write written call hit value moment place at_place found is at writes it =
      let read = reads history certificate a place call hit value moment at_place found is in
      let first = placed_at history certificate a write written at in
      let here : read.from ≡ first.0 = one_place history certificate a read.from first.0 write (read.placed ∙ ap Some it) first.1 in
      let both : Some read.put ≡ Some written = sym read.at ∙ ap (slice_get history) it ∙ at in
      let one : read.put ≡ written = cc in
      let keys : hit.key ≡ key = sym read.one_key ∙ ap (λ (c : Call). c.key) one ∙ writes.0 in
      let before = read.earlier in
      record {
        first = first.0;
        last = place;
        first_at = first.1;
        last_at = at_place;
        in_order = omega (arith, here, before);
        unwritten = λ j q other less lower at_j at_q wrote. elim (cases_lt j place) [
          | inl under ↦ read.unwritten j q other (omega (arith, less, here)) under at_j at_q (wrote.0 ∙ sym keys, wrote.1)
          | inr enough ↦
              let last : j ≡ place = omega (arith, lower, enough) in
              let position : Some q ≡ Some call = sym at_j ∙ ap (slice_get certificate) last ∙ at_place in
              let calls : q ≡ call = cc in
              let others : Some other ≡ Some hit = sym at_q ∙ ap (slice_get history) calls ∙ found in
              let that : other ≡ hit = cc in
              no_write other.act value moment (ap (λ (c : Call). c.act) that ∙ is) wrote.1
        ];
      }

  stretch : (key : List ℕ) (write : ℕ) (written : Call) (call : ℕ) → slice_get history write ≡ Some written → Writes (deed_of written) key → GoesWith history write call → Stretch history certificate write call key
  stretch key write written call at writes goes =
      let first = placed_at history certificate a write written at in
      elim goes [
        | inl same ↦ record {
          first = first.0;
          last = first.0;
          first_at = first.1;
          last_at = first.1 ∙ ap Some (sym same);
          in_order = omega arith;
          unwritten = λ j q other less lower. absurd (omega (arith, less, lower));
        }
        | inr hit ↦
            let place = placed_at history certificate a call hit.0 hit.3 in
            let read = reads history certificate a place.0 call hit.0 hit.1 hit.2 place.1 hit.3 hit.4 in
            let could = could_read history certificate a place.0 call hit.0 hit.1 hit.2 place.1 hit.3 hit.4 in
            stretch_read key write written call hit.0 hit.1 hit.2 place.0 place.1 hit.3 hit.4 at writes (hit.5 read.position could)
      ]

  -- a write does not stand before another one, if a call that goes with that one precedes a call that goes with it
  not_ahead : (key : List ℕ) (one other late early : ℕ) (written : Call) (i j : ℕ) → Stretch history certificate one late key → Stretch history certificate other early key → slice_get history other ≡ Some written → Writes (deed_of written) key → IsSomeAnd (slice_get history early) (λ e. IsSomeAnd (slice_get history late) (λ l. Precedes e l)) → slice_get certificate i ≡ Some one → slice_get certificate j ≡ Some other → ¬ (i < j)
  not_ahead key one other late early written i j own others at writes precedes at_i at_j less =
      let from : own.first ≡ i = one_place history certificate a own.first i one own.first_at at_i in
      let to : others.first ≡ j = one_place history certificate a others.first j other others.first_at at_j in
      let e = some_and (slice_get history early) (λ e. IsSomeAnd (slice_get history late) (λ l. Precedes e l)) precedes in
      let l = some_and (slice_get history late) (λ l. Precedes e.0 l) e.2 in
      let up = others.in_order in
      elim (cases_lt own.last j) [
        | inl under ↦ agrees_at history certificate a own.last others.last late early l.0 e.0 (omega (arith, under, up, to)) own.last_at others.last_at l.1 e.1 l.2
        | inr enough ↦ own.unwritten j other written (omega (arith, less, from)) enough at_j at writes
      ]

  -- the write of the first side does not stand before the other's
  not_before : (key : List ℕ) (one other : Side) (i j : ℕ) → IsSide history key one other → IsSide history key other one → slice_get certificate i ≡ Some one.write → slice_get certificate j ≡ Some other.write → ¬ (i < j)
  not_before key one other i j first second at_i at_j less =
      let v = some_and (slice_get history one.write) (λ write. Writes (deed_of write) key) first.writes in
      let w = some_and (slice_get history other.write) (λ write. Writes (deed_of write) key) second.writes in
      let own = stretch key one.write v.0 one.late v.1 v.2 first.late_goes in
      let others = stretch key other.write w.0 other.early w.1 w.2 second.early_goes in
      not_ahead key one.write other.write one.late other.early w.0 i j own others w.1 w.2 second.precedes at_i at_j less

  not_crossed : (one other : Side) → ¬ AreCrossed history one other
  not_crossed one other c =
      let v = some_and (slice_get history one.write) (λ write. Writes (deed_of write) c.key) c.first.writes in
      let w = some_and (slice_get history other.write) (λ write. Writes (deed_of write) c.key) c.second.writes in
      let i = placed_at history certificate a one.write v.0 v.1 in
      let j = placed_at history certificate a other.write w.0 w.1 in
      elim (cases_before i.0 j.0) [
        | inl less ↦ not_before c.key one other i.0 j.0 c.first c.second i.1 j.1 less
        | inr rest ↦ elim rest [
          | inl same ↦ c.apart (let both : Some one.write ≡ Some other.write = sym i.1 ∙ ap (slice_get certificate) same ∙ j.1 in cc)
          | inr less ↦ not_before c.key other one j.0 i.0 c.second c.first j.1 i.1 less
        ]
      ]

  not_crossed_if_read : (hit : ℕ) (reads_it : List CrossedWrites) (is : IsUnread history hit reads_it) (place : ℕ) (placed : slice_get certificate place ≡ Some hit) (writes : CrossedWrites) → (reads history certificate a place hit is.call is.value is.moment placed is.at is.is).position ≡ writes.one.write → ¬ AreCrossedIfRead (GoesWith history) history hit writes
  not_crossed_if_read hit reads_it is place placed writes it c =
      let v = some_and (slice_get history writes.one.write) (λ write. Writes (deed_of write) c.key) c.one_writes in
      let w = some_and (slice_get history writes.other.write) (λ write. Writes (deed_of write) c.key) c.other_writes in
      let i = placed_at history certificate a writes.one.write v.0 v.1 in
      let j = placed_at history certificate a writes.other.write w.0 w.1 in
      let own : (call : ℕ) → GoesIfRead (GoesWith history) hit writes.one.write call → Stretch history certificate writes.one.write call c.key = λ call goes. elim goes [
        | inl same ↦ subst (λ p. Stretch history certificate writes.one.write p c.key) (sym same) (stretch_read c.key writes.one.write v.0 hit is.call is.value is.moment place placed is.at is.is v.1 v.2 it)
        | inr with ↦ stretch c.key writes.one.write v.0 call v.1 v.2 with
      ] in
      let others_early = stretch c.key writes.other.write w.0 writes.other.early w.1 w.2 c.other_early in
      let others_late = stretch c.key writes.other.write w.0 writes.other.late w.1 w.2 c.other_late in
      elim (cases_before i.0 j.0) [
        | inl less ↦ not_ahead c.key writes.one.write writes.other.write writes.one.late writes.other.early w.0 i.0 j.0 (own writes.one.late c.one_late) others_early w.1 w.2 c.back i.1 j.1 less
        | inr rest ↦ elim rest [
          | inl same ↦ c.apart (let both : Some writes.one.write ≡ Some writes.other.write = sym i.1 ∙ ap (slice_get certificate) same ∙ j.1 in cc)
          | inr less ↦ not_ahead c.key writes.other.write writes.one.write writes.other.late writes.one.early v.0 j.0 i.0 others_late (own writes.one.early c.one_early) v.1 v.2 c.forth j.1 i.1 less
        ]
      ]

  no_unread : (hit : ℕ) (reads_it : List CrossedWrites) → ¬ IsUnread history hit reads_it
  no_unread hit reads_it is =
      let place = placed_at history certificate a hit is.call is.at in
      let could = could_read history certificate a place.0 hit is.call is.value is.moment place.1 is.at is.is in
      let read = reads history certificate a place.0 hit is.call is.value is.moment place.1 is.at is.is in
      let listed = member_map (λ (writes : CrossedWrites). writes.one.write) reads_it read.position (member_contained (map (λ (writes : CrossedWrites). writes.one.write) reads_it) read.position (is.all read.position could)) in
      not_crossed_if_read hit reads_it is place.0 place.1 listed.0 listed.2 (all_member (AreCrossedIfRead (GoesWith history) history hit) reads_it listed.0 is.each listed.1)

  pub no_witness : (witness : Witness) → ¬ IsWitness history witness
  no_witness (witnesses.Interval position) h =
      let found = some_and (slice_get history position) (λ call. call.end < call.start) h in no_interval position found.0 found.1 found.2
  no_witness (witnesses.Hit hit puts) h = some_read hit puts.items h
  no_witness (witnesses.Crossed one other) h = not_crossed one other h
  no_witness (witnesses.Unread unread) h = no_unread unread.hit unread.reads.items h
