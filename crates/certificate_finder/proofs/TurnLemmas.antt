-- Each call after the write that it goes with, and the zones one after the other.
use Rattle.std.proofs.Common.{◌≡◌, ◌≢◌, ℕ, ◌+◌, ◌*◌, ◌^◌, ◌<◌, ◌≤◌, ◌⊎◌, false, Some, List, length, get_or, refl, sym, ap, ◌∙◌, subst, arith, inl, inr}
use Rattle.std.specs.Prelude.{All, AllPairs, slice_get, IsTrue}
use Rattle.std.specs.Option.{option_map_or}
use Rattle.std.proofs.lemmas.Bool.{cases_lt}
use Rattle.std.proofs.lemmas.Option.{get_or_from_slice_get, slice_get_within}
use Rattle.record_pages.specs.Expiry.{is_live}
use Rattle.trace_file.specs.Calls.{time_of, value_of}
use Rattle.trace_file.specs.declared.act.Act.{Act}
use Rattle.trace_file.specs.declared.act.Act.TheVariants.{Put, Remove, Hit, Miss}
use Rattle.trace_file.specs.declared.call.Call.{Call}
use Rattle.trace_file.specs.declared.call_kind.CallKind.{CallKind}
use Rattle.trace_file.specs.declared.call_kind.CallKind.TheVariants as kinds
use Rattle.certificate_finder.specs.declared.numbered_call.NumberedCall.{NumberedCall}
use Rattle.certificate_finder.specs.declared.zone.Zone.{Zone}
use Rattle.certificate_finder.specs.Lining.{ArePlaces, place_at, turn_at, turn_of}
use Rattle.certificate_finder.specs.Owning.{AreOwners, ReadsAt}
use Rattle.certificate_finder.specs.Spots.{AreOfOne, is_miss}
use Rattle.trace_file.specs.Kinds.{IsWriting, kind_of}
use Rattle.certificate_finder.specs.Steps.{AreSteps, IsFit}
use Rattle.certificate_finder.specs.Turns.{AreTurns, end_at, start_at}
use Rattle.certificate_finder.specs.Writing.{Writing}
use Rattle.certificate_finder.specs.Zones.{AreZones, FollowOn, Goes, TellsZone}
use Rattle.certificate_finder.proofs.EndLemmas.{found_at}
use Rattle.certificate_finder.proofs.FindLemmas.{call_at, put_at, step_at, writing_of}
use Rattle.certificate_finder.proofs.Listing.{all_at, index_of, pair_at, same_at}
use Rattle.certificate_finder.proofs.Placing.{call_of, end_is, one_of, start_is}

pub no_miss_of : (act : Act) → is_miss act ≡ false → kind_of act ≢ kinds.Miss
no_miss_of (Put value expires) h same = cc
no_miss_of Remove h same = cc
no_miss_of (Hit value moment) h same = cc
no_miss_of Miss h same = cc

-- a hit or a write, if it is no miss
hit_or_write : (kind : CallKind) → kind ≢ kinds.Miss → (kind ≡ kinds.Hit) ⊎ IsWriting kind
hit_or_write kinds.Put h = inr tt
hit_or_write kinds.Remove h = inr tt
hit_or_write kinds.Hit h = inl refl
hit_or_write kinds.Miss h = absurd (h refl)

no_hit : (kind : CallKind) → IsWriting kind → kind ≢ kinds.Hit
no_hit kinds.Put w same = cc
no_hit kinds.Remove w same = cc
no_hit kinds.Hit w same = absurd w
no_hit kinds.Miss w same = absurd w

hit_no_miss : (kind : CallKind) → kind ≡ kinds.Hit → kind ≢ kinds.Miss
hit_no_miss kinds.Put h same = cc
hit_no_miss kinds.Remove h same = cc
hit_no_miss kinds.Hit h same = cc
hit_no_miss kinds.Miss h same = cc

no_miss : (kind : CallKind) → IsWriting kind → kind ≢ kinds.Miss
no_miss kinds.Put w same = cc
no_miss kinds.Remove w same = cc
no_miss kinds.Hit w same = absurd w
no_miss kinds.Miss w same = absurd w

turn_of_write : (kind : CallKind) (start place zones : ℕ) → IsWriting kind → turn_of kind start place zones ≡ place * 2 ^ 65
turn_of_write kinds.Put start place zones w = refl
turn_of_write kinds.Remove start place zones w = refl
turn_of_write kinds.Hit start place zones w = absurd w
turn_of_write kinds.Miss start place zones w = absurd w

turn_of_hit : (kind : CallKind) (start place zones : ℕ) → kind ≡ kinds.Hit → turn_of kind start place zones ≡ place * 2 ^ 65 + 2 ^ 64 + start
turn_of_hit kind start place zones is = ap (λ k. turn_of k start place zones) is

turn_low : (kind : CallKind) (start place zones : ℕ) → kind ≢ kinds.Miss → place * 2 ^ 65 ≤ turn_of kind start place zones
turn_low kind start place zones h = elim (hit_or_write kind h) [
  | inl hit ↦ let e = turn_of_hit kind start place zones hit in omega arith
  | inr write ↦ let e = turn_of_write kind start place zones write in omega arith
]

turn_high : (kind : CallKind) (start place zones : ℕ) → kind ≢ kinds.Miss → start < 2 ^ 64 → turn_of kind start place zones < place * 2 ^ 65 + 2 ^ 65
turn_high kind start place zones h small = elim (hit_or_write kind h) [
  | inl hit ↦ let e = turn_of_hit kind start place zones hit in omega arith
  | inr write ↦ let e = turn_of_write kind start place zones write in omega arith
]

place_le : (a b x y : ℕ) → a * 2 ^ 65 ≤ x → x ≤ y → y < b * 2 ^ 65 + 2 ^ 65 → a ≤ b
place_le a b x y low le high = omega arith

-- a call goes with the write of a zone
pub record IsPlaced (steps : List NumberedCall) (owners places : List ℕ) (zones : List Zone) (p : ℕ) (step : NumberedCall) : Type 0 where
  pub zone : Zone
  pub owner : NumberedCall
  pub owner_at : slice_get steps (get_or owners p 0) ≡ Some owner
  pub writes : Writing owner
  pub zone_at : slice_get zones (place_at owners places p) ≡ Some zone
  pub tells : TellsZone steps owners (get_or owners p 0) owner zone
  pub goes : Goes owners (get_or owners p 0) p
  pub one_key : owner.key ≡ step.key

module _ (history : List Call) (steps : List NumberedCall) (are : AreSteps history steps) (owners : List ℕ) (own : AreOwners steps owners) (zones : List Zone) (zs : AreZones steps owners zones) (places : List ℕ) (pl : ArePlaces (length steps) zones (length zones) places) where
  -- the owner of a call that is there
  owner_of : (p : ℕ) (step : NumberedCall) → slice_get steps p ≡ Some step → slice_get owners p ≡ Some (get_or owners p 0)
  owner_of p step at =
      let within = slice_get_within steps p step at in
      let count = own.count in
      let o = found_at owners p (omega arith) in
      o.1 ∙ ap Some (sym (get_or_from_slice_get owners p o.0 0 o.1))

  -- the put that a hit goes with
  pub hit_reads : (p : ℕ) (step : NumberedCall) → slice_get steps p ≡ Some step → step.kind ≡ kinds.Hit → ReadsAt steps step (get_or owners p 0)
  hit_reads p step at hit = elim (own.owned p step (get_or owners p 0) at (owner_of p step at)) [
    | inl alone ↦ absurd (alone.1 hit)
    | inr only ↦ only.1
  ]

  -- a write goes with itself
  pub write_owns : (p : ℕ) (step : NumberedCall) → slice_get steps p ≡ Some step → Writing step → get_or owners p 0 ≡ p
  write_owns p step at writes = elim (own.owned p step (get_or owners p 0) at (owner_of p step at)) [
    | inl alone ↦ alone.0
    | inr only ↦ absurd (no_hit step.kind writes only.0)
  ]

  -- the zone of a write, at its place
  zone_of : (q : ℕ) (owner : NumberedCall) → slice_get steps q ≡ Some owner → Writing owner → (zone : Zone) × (slice_get zones (get_or places q 0) ≡ Some zone) × TellsZone steps owners q owner zone
  zone_of q owner at writes =
      let t = zs.lists.complete q owner (slice_get_within steps q owner at) at writes in
      let k = index_of zones t.item t.listed in
      let place = pl.each k.0 t.item (slice_get_within zones k.0 t.item k.1) k.1 in
      let here : get_or places q 0 ≡ k.0 = ap (λ w. get_or places w 0) (sym t.told.write) ∙ get_or_from_slice_get places t.item.write k.0 0 place in
      (t.item, ap (slice_get zones) here ∙ k.1, t.told)

  pub placed : (p : ℕ) (step : NumberedCall) → slice_get steps p ≡ Some step → step.kind ≢ kinds.Miss → IsPlaced steps owners places zones p step
  placed p step at some = elim (hit_or_write step.kind some) [
    | inl hit ↦
        let r = hit_reads p step at hit in
        let writes : Writing r.put = subst IsWriting (sym r.reads.may.kind) tt in
        let z = zone_of (get_or owners p 0) r.put r.at writes in
        record { zone = z.0; owner = r.put; owner_at = r.at; writes = writes; zone_at = z.1; tells = z.2; goes = inr (owner_of p step at); one_key = r.reads.may.key }
    | inr writes ↦
        let same = write_owns p step at writes in
        let at' : slice_get steps (get_or owners p 0) ≡ Some step = ap (slice_get steps) same ∙ at in
        let z = zone_of (get_or owners p 0) step at' writes in
        record { zone = z.0; owner = step; owner_at = at'; writes = writes; zone_at = z.1; tells = z.2; goes = inl (sym same); one_key = refl }
  ]

  turn_is : (p : ℕ) (step : NumberedCall) → slice_get steps p ≡ Some step → turn_at steps owners places (length zones) p ≡ turn_of step.kind step.start (place_at owners places p) (length zones)
  turn_is p step at = ap (λ o. option_map_or (λ (s : NumberedCall). turn_of s.kind s.start (place_at owners places p) (length zones)) o 0) at

  pub rising_at : (p q : ℕ) (s t : NumberedCall) → slice_get steps p ≡ Some s → slice_get steps q ≡ Some t → s.kind ≢ kinds.Miss → t.kind ≢ kinds.Miss → turn_at steps owners places (length zones) p ≤ turn_at steps owners places (length zones) q → place_at owners places p ≤ place_at owners places q
  rising_at p q s t at_s at_t some other le =
      let f : IsFit t = all_at IsFit steps q t are.fit at_t in
      let low = turn_low s.kind s.start (place_at owners places p) (length zones) some in
      let high = turn_high t.kind t.start (place_at owners places q) (length zones) other f.start in
      let a = turn_is p s at_s in
      let b = turn_is q t at_t in
      place_le (place_at owners places p) (place_at owners places q) (turn_at steps owners places (length zones) p) (turn_at steps owners places (length zones) q) (omega arith) le (omega arith)

  -- a miss comes after all others
  pub before_no_miss : (p q : ℕ) (s t : NumberedCall) → slice_get steps p ≡ Some s → slice_get steps q ≡ Some t → t.kind ≢ kinds.Miss → turn_at steps owners places (length zones) p ≤ turn_at steps owners places (length zones) q → s.kind ≢ kinds.Miss
  before_no_miss p q s t at_s at_t some le miss =
      let f : IsFit t = all_at IsFit steps q t are.fit at_t in
      let high = turn_high t.kind t.start (place_at owners places q) (length zones) some f.start in
      let a = turn_is p s at_s in
      let m : turn_of s.kind s.start (place_at owners places p) (length zones) ≡ length zones * 2 ^ 65 + s.start = ap (λ k. turn_of k s.start (place_at owners places p) (length zones)) miss in
      let b = turn_is q t at_t in
      let z = placed q t at_t some in
      let within = slice_get_within zones (place_at owners places q) z.zone z.zone_at in
      omega arith

  -- ---- each hit after its owner, and no other write between

  pub are_turns : AreTurns history (λ p. get_or owners p 0) (turn_at steps owners places (length zones))
  are_turns = record {
    given = λ h key value moment is.
        let s = step_at history steps are h is.call is.at in
        let kind : s.0.kind ≡ kinds.Hit = s.2.kind ∙ ap kind_of is.is in
        let r = hit_reads h s.0 s.1 kind in
        let c = call_at history steps are (get_or owners h 0) r.put r.at in
        let v = put_at history steps are (get_or owners h 0) c.0 r.put c.2 r.reads.may.kind in
        let alike = are.alike (get_or owners h 0) h c.0 is.call r.put s.0 c.1 is.at r.at s.1 in
        let same : v.0 ≡ value = sym (ap value_of v.2) ∙ alike.values.0 r.reads.may.value ∙ ap value_of is.is in
        let time : s.0.time ≡ moment = s.2.time ∙ ap time_of is.is in
        record {
          call = c.0;
          expires = v.1;
          at = c.1;
          one_key = alike.keys.0 r.reads.may.key ∙ is.one_key;
          is = v.2 ∙ ap (λ w. Put w v.1) same;
          live = subst (λ e. IsTrue (is_live e moment)) v.3 (subst (λ m. IsTrue (is_live r.put.time m)) time r.reads.live);
        };
    behind = λ h key value moment is.
        let s = step_at history steps are h is.call is.at in
        let kind : s.0.kind ≡ kinds.Hit = s.2.kind ∙ ap kind_of is.is in
        let r = hit_reads h s.0 s.1 kind in
        let writes : Writing r.put = subst IsWriting (sym r.reads.may.kind) tt in
        let own' = write_owns (get_or owners h 0) r.put r.at writes in
        let place : place_at owners places (get_or owners h 0) ≡ place_at owners places h = ap (λ o. get_or places o 0) own' in
        let a = turn_is (get_or owners h 0) r.put r.at in
        let b = turn_is h s.0 s.1 in
        let c = turn_of_write r.put.kind r.put.start (place_at owners places (get_or owners h 0)) (length zones) writes in
        let d = turn_of_hit s.0.kind s.0.start (place_at owners places h) (length zones) kind in
        omega arith;
    alone = λ h w key value moment is writes low high.
        let s = step_at history steps are h is.call is.at in
        let kind : s.0.kind ≡ kinds.Hit = s.2.kind ∙ ap kind_of is.is in
        let r = hit_reads h s.0 s.1 kind in
        let o_writes : Writing r.put = subst IsWriting (sym r.reads.may.kind) tt in
        let x = step_at history steps are w writes.call writes.at in
        let x_writes : Writing x.0 = subst IsWriting (sym x.2.kind) (writing_of writes.call.act writes.writes.1) in
        let own' = write_owns (get_or owners h 0) r.put r.at o_writes in
        let own_w = write_owns w x.0 x.1 x_writes in
        let place : place_at owners places (get_or owners h 0) ≡ place_at owners places h = ap (λ o. get_or places o 0) own' in
        let a = rising_at (get_or owners h 0) w r.put x.0 r.at x.1 (no_miss r.put.kind o_writes) (no_miss x.0.kind x_writes) low in
        let b = rising_at w h x.0 s.0 x.1 s.1 (no_miss x.0.kind x_writes) (λ m. hit_no_miss s.0.kind kind m) high in
        let same : place_at owners places w ≡ place_at owners places h = omega arith in
        let zw = placed w x.0 x.1 (no_miss x.0.kind x_writes) in
        let zh = placed h s.0 s.1 (λ m. hit_no_miss s.0.kind kind m) in
        let z = same_at zones (place_at owners places w) (place_at owners places h) zw.zone zh.zone same zw.zone_at zh.zone_at in
        sym own_w ∙ sym zw.tells.write ∙ ap (λ (z : Zone). z.write) z ∙ zh.tells.write;
  }

  -- ---- the zones follow on

  pub fits : AllPairs FollowOn zones → All (λ (call : Call). call.start ≤ call.end) history → (p q : ℕ) → AreOfOne history p q → turn_at steps owners places (length zones) p ≤ turn_at steps owners places (length zones) q → p ≢ q → start_at history p ≤ end_at history q
  fits follow intervals p q one le differ =
      let a = call_of history one.key p one.first in
      let b = call_of history one.key q one.second in
      let both = one_of history p q a.0 b.0 a.1 b.1 one in
      let s = step_at history steps are p a.0 a.1 in
      let t = step_at history steps are q b.0 b.1 in
      let some : s.0.kind ≢ kinds.Miss = λ m. no_miss_of a.0.act both.1 (sym s.2.kind ∙ m) in
      let other : t.0.kind ≢ kinds.Miss = λ m. no_miss_of b.0.act both.2 (sym t.2.kind ∙ m) in
      let alike = are.alike p q a.0 b.0 s.0 t.0 a.1 b.1 s.1 t.1 in
      let key : s.0.key ≡ t.0.key = alike.keys.1 both.0 in
      let zp = placed p s.0 s.1 some in
      let zq = placed q t.0 t.1 other in
      let up = rising_at p q s.0 t.0 s.1 t.1 some other le in
      let from : start_at history p ≡ s.0.start = start_is history p a.0 a.1 ∙ sym s.2.start in
      let till : end_at history q ≡ t.0.end = end_is history q b.0 b.1 ∙ sym t.2.end in
      let late = zp.tells.latest.greatest p s.0 s.1 zp.goes in
      let late_is : zp.zone.start ≡ zp.tells.last.start = zp.tells.start in
      let early = zq.tells.earliest.least q t.0 t.1 zq.goes in
      let early_is : zq.zone.end ≡ zq.tells.first.end = zq.tells.end in
      let interval = all_at (λ (c : Call). c.start ≤ c.end) history q b.0 intervals b.1 in
      let i_start : t.0.start ≡ b.0.start = t.2.start in
      let i_end : t.0.end ≡ b.0.end = t.2.end in
      elim (cases_lt (place_at owners places p) (place_at owners places q)) [
        | inl less ↦
            let keys : zp.zone.key ≡ zq.zone.key = zp.tells.key ∙ zp.one_key ∙ key ∙ sym (zq.tells.key ∙ zq.one_key) in
            let between = pair_at FollowOn zones (place_at owners places p) (place_at owners places q) zp.zone zq.zone follow less zp.zone_at zq.zone_at keys in
            omega arith
        | inr enough ↦
            let same : place_at owners places p ≡ place_at owners places q = omega arith in
            let z = same_at zones (place_at owners places p) (place_at owners places q) zp.zone zq.zone same zp.zone_at zq.zone_at in
            let owner : get_or owners p 0 ≡ get_or owners q 0 = sym zp.tells.write ∙ ap (λ (z : Zone). z.write) z ∙ zq.tells.write in
            elim (hit_or_write s.0.kind some) [
              | inl hit ↦ elim (hit_or_write t.0.kind other) [
                | inl hit_too ↦
                    let c = turn_is p s.0 s.1 in
                    let d = turn_is q t.0 t.1 in
                    let e = turn_of_hit s.0.kind s.0.start (place_at owners places p) (length zones) hit in
                    let f = turn_of_hit t.0.kind t.0.start (place_at owners places q) (length zones) hit_too in
                    omega arith
                | inr write ↦
                    let c = turn_is p s.0 s.1 in
                    let d = turn_is q t.0 t.1 in
                    let e = turn_of_hit s.0.kind s.0.start (place_at owners places p) (length zones) hit in
                    let f = turn_of_write t.0.kind t.0.start (place_at owners places q) (length zones) write in
                    absurd (omega arith)
              ]
              | inr write ↦ elim (hit_or_write t.0.kind other) [
                | inl hit ↦
                    let r = hit_reads q t.0 t.1 hit in
                    let own' = write_owns p s.0 s.1 write in
                    let is = same_at steps p (get_or owners q 0) s.0 r.put (sym own' ∙ owner) s.1 r.at in
                    let begun = subst (λ (o : NumberedCall). o.start ≤ t.0.end) (sym is) r.reads.may.begun in
                    omega arith
                | inr write_too ↦ absurd (differ (sym (write_owns p s.0 s.1 write) ∙ owner ∙ write_owns q t.0 t.1 write_too))
              ]
            ]
      ]
