-- What calls in numbers say of their history.
use Rattle.std.proofs.Common.{◌≡◌, ℕ, ◌<◌, ◌≤◌, Some, List, refl, sym, ap, ◌∙◌, subst, arith, inl, inr}
use Rattle.std.specs.Prelude.{All, slice_get, IsTrue, IsSomeAnd}
use Rattle.std.proofs.lemmas.Bool.{cases_lt}
use Rattle.std.proofs.lemmas.List.Elements.{All-contains, All-weaker}
use Rattle.std.proofs.lemmas.Option.{slice_get_within}
use Rattle.record_pages.specs.Expiry.{is_live}
use Rattle.trace_file.specs.Calls.{time_of, value_of}
use Rattle.trace_file.specs.declared.act.Act.{Act}
use Rattle.trace_file.specs.declared.act.Act.TheVariants.{Put, Remove, Hit, Miss}
use Rattle.trace_file.specs.declared.call.Call.{Call}
use Rattle.certificate_checker.specs.Deeds.{deed_of}
use Rattle.certificate_checker.specs.Latest.{IsWrite, Writes}
use Rattle.certificate_checker.specs.Orders.{Precedes}
use Rattle.certificate_checker.proofs.public_laws.Lookups.{and_some}
use Rattle.certificate_finder.specs.declared.excluded.Excluded.{Excluded}
use Rattle.certificate_finder.specs.declared.excluded.Excuse.{Excuse}
use Rattle.certificate_finder.specs.declared.excluded.Excuse.TheVariants.{Later, Expired, Replaced}
use Rattle.trace_file.specs.declared.call_kind.CallKind.TheVariants as kinds
use Rattle.certificate_finder.specs.declared.numbered_call.NumberedCall.{NumberedCall}
use Rattle.certificate_finder.specs.declared.zone.Zone.{Zone}
use Rattle.certificate_finder.specs.Excluding.{AreExcludedAt, ExcludesStep, IsExcludedStep}
use Rattle.certificate_finder.specs.Lists.{TellsOne}
use Rattle.certificate_finder.specs.Owning.{AreSingle, IsUnsure, MayRead, ReadsLive, ReadsOnly}
use Rattle.certificate_finder.specs.Putting.{IsOver}
use Rattle.certificate_finder.specs.Reads.{CouldRead, HasBegun, HasSeveral, StandsBetween, StandsFor}
use Rattle.trace_file.specs.Kinds.{IsWriting, kind_of}
use Rattle.certificate_finder.specs.Steps.{AreSteps, IsStep}
use Rattle.certificate_finder.specs.Witnesses.{AreCrossed, Excludes, GoesWith, IsExcluded, IsSide, ReadsNone}
use Rattle.certificate_finder.specs.Writing.{Writing}
use Rattle.certificate_finder.specs.Zones.{AreCrossing, AreZones, Goes, TellsZone}
use Rattle.certificate_finder.proofs.EndLemmas.{found_at}
use Rattle.certificate_finder.proofs.Listing.{all_at, all_from_at}

-- ---- acts and their kinds

pub put_of : (act : Act) → kind_of act ≡ kinds.Put → (value : List ℕ) × (expires : ℕ) × (act ≡ Put value expires)
put_of (Put value expires) h = (value, expires, refl)
put_of Remove h = cc
put_of (Hit value moment) h = cc
put_of Miss h = cc

pub hit_of : (act : Act) → kind_of act ≡ kinds.Hit → (value : List ℕ) × (moment : ℕ) × (act ≡ Hit value moment)
hit_of (Put value expires) h = cc
hit_of Remove h = cc
hit_of (Hit value moment) h = (value, moment, refl)
hit_of Miss h = cc

pub write_of : (act : Act) → IsWriting (kind_of act) → IsWrite act
write_of (Put value expires) h = tt
write_of Remove h = tt
write_of (Hit value moment) h = absurd h
write_of Miss h = absurd h

pub writing_of : (act : Act) → IsWrite act → IsWriting (kind_of act)
writing_of (Put value expires) h = tt
writing_of Remove h = tt
writing_of (Hit value moment) h = absurd h
writing_of Miss h = absurd h

module _ (history : List Call) (steps : List NumberedCall) (are : AreSteps history steps) where
  pub call_at : (p : ℕ) (step : NumberedCall) → slice_get steps p ≡ Some step → (call : Call) × (slice_get history p ≡ Some call) × IsStep call step
  call_at p step at =
      let within = slice_get_within steps p step at in
      let count = are.count in
      let c = found_at history p (omega arith) in
      (c.0, c.1, are.each p c.0 step c.1 at)

  pub step_at : (p : ℕ) (call : Call) → slice_get history p ≡ Some call → (step : NumberedCall) × (slice_get steps p ≡ Some step) × IsStep call step
  step_at p call at =
      let within = slice_get_within history p call at in
      let count = are.count in
      let s = found_at steps p (omega arith) in
      (s.0, s.1, are.each p call s.0 at s.1)

  -- a put in numbers
  pub put_at : (p : ℕ) (call : Call) (step : NumberedCall) → IsStep call step → step.kind ≡ kinds.Put → (value : List ℕ) × (expires : ℕ) × (call.act ≡ Put value expires) × (step.time ≡ expires)
  put_at p call step is kind =
      let w = put_of call.act (sym is.kind ∙ kind) in
      (w.0, w.1, w.2, is.time ∙ ap time_of w.2)

  pub hit_at : (p : ℕ) (call : Call) (step : NumberedCall) → IsStep call step → step.kind ≡ kinds.Hit → (value : List ℕ) × (moment : ℕ) × (call.act ≡ Hit value moment) × (step.time ≡ moment)
  hit_at p call step is kind =
      let w = hit_of call.act (sym is.kind ∙ kind) in
      (w.0, w.1, w.2, is.time ∙ ap time_of w.2)

  -- a write that stands between, in numbers and back
  pub between : (h p q : ℕ) (hit put call : Call) (s t o : NumberedCall) → slice_get history h ≡ Some hit → slice_get history p ≡ Some put → slice_get history q ≡ Some call → slice_get steps h ≡ Some s → slice_get steps p ≡ Some t → slice_get steps q ≡ Some o → hit.key ≡ put.key → IsOver t o → o.end < s.start → StandsBetween hit.key put hit call
  between h p q hit put call s t o at_hit at_put at_call at_s at_t at_o same over less =
      let hs = are.each h hit s at_hit at_s in
      let ps = are.each p put t at_put at_t in
      let cs = are.each q call o at_call at_o in
      let alike = are.alike q p call put o t at_call at_put at_o at_t in
      let a = ps.end in
      let b = cs.start in
      let c = cs.end in
      let d = hs.start in
      let behind = over.behind in
      record {
        writes = (alike.keys.0 over.key ∙ sym same, write_of call.act (subst IsWriting cs.kind over.writes));
        behind = omega arith;
        before = omega arith;
      }

  pub over_between : (h p q : ℕ) (hit put call : Call) (s t o : NumberedCall) → slice_get history h ≡ Some hit → slice_get history p ≡ Some put → slice_get history q ≡ Some call → slice_get steps h ≡ Some s → slice_get steps p ≡ Some t → slice_get steps q ≡ Some o → put.key ≡ hit.key → StandsBetween hit.key put hit call → IsOver t o × (o.end < s.start)
  over_between h p q hit put call s t o at_hit at_put at_call at_s at_t at_o same stands =
      let hs = are.each h hit s at_hit at_s in
      let ps = are.each p put t at_put at_t in
      let cs = are.each q call o at_call at_o in
      let alike = are.alike q p call put o t at_call at_put at_o at_t in
      let a = ps.end in
      let b = cs.start in
      let c = cs.end in
      let d = hs.start in
      let behind = stands.behind in
      let before = stands.before in (
        record {
          writes = subst IsWriting (sym cs.kind) (writing_of call.act stands.writes.1);
          key = alike.keys.1 (stands.writes.0 ∙ sym same);
          behind = omega arith;
        },
        omega arith,
      )

  -- ---- what a hit could read, in numbers and back

  -- a put that a hit does not precede, in numbers: its key, its value and its start
  begun_of : (h p : ℕ) (s t : NumberedCall) → slice_get steps h ≡ Some s → slice_get steps p ≡ Some t → HasBegun history h p → (t.kind ≡ kinds.Put) × (t.key ≡ s.key) × (t.value ≡ s.value) × (t.start ≤ s.end)
  begun_of h p s t at_s at_t has =
      let hs = are.each h has.hit_call s has.hit_at at_s in
      let ps = are.each p has.put_call t has.put_at at_t in
      let alike = are.alike p h has.put_call has.hit_call t s has.put_at has.hit_at at_t at_s in
      let a = hs.end in
      let b = ps.start in
      let begun : ¬ (has.hit_call.end < has.put_call.start) = has.begun in (
        ps.kind ∙ ap kind_of has.put_is,
        alike.keys.1 has.one_key,
        alike.values.1 (ap value_of has.put_is ∙ sym (ap value_of has.hit_is)),
        elim (cases_lt has.hit_call.end has.put_call.start) [ inl less ↦ absurd (begun less) | inr not ↦ omega arith ],
      )

  has_begun : (h p : ℕ) (s t : NumberedCall) → slice_get steps h ≡ Some s → slice_get steps p ≡ Some t → s.kind ≡ kinds.Hit → t.kind ≡ kinds.Put → t.key ≡ s.key → t.value ≡ s.value → t.start ≤ s.end → HasBegun history h p
  has_begun h p s t at_s at_t hit put one_key one_value begun =
      let hc = call_at h s at_s in
      let pc = call_at p t at_t in
      let hv = hit_at h hc.0 s hc.2 hit in
      let pv = put_at p pc.0 t pc.2 put in
      let alike = are.alike p h pc.0 hc.0 t s pc.1 hc.1 at_t at_s in
      let value : pv.0 ≡ hv.0 = sym (ap value_of pv.2) ∙ alike.values.0 one_value ∙ ap value_of hv.2 in
      let a = hc.2.end in
      let b = pc.2.start in
      record {
        hit_call = hc.0;
        put_call = pc.0;
        value = hv.0;
        moment = hv.1;
        expires = pv.1;
        hit_at = hc.1;
        put_at = pc.1;
        hit_is = hv.2;
        put_is = pv.2 ∙ ap (λ v. Put v pv.1) value;
        one_key = alike.keys.0 one_key;
        begun = λ less. let l : hc.0.end < pc.0.start = less in absurd (omega arith);
      }

  pub may_of : (h p : ℕ) (s t : NumberedCall) → slice_get steps h ≡ Some s → slice_get steps p ≡ Some t → StandsFor history h p → MayRead steps s t
  may_of h p s t at_s at_t could =
      let has = could.has in
      let b = begun_of h p s t at_s at_t has in
      record {
        kind = b.0;
        key = b.1;
        value = b.2;
        begun = b.3;
        stands = λ q o at_o over. elim (cases_lt o.end s.start) [
          | inl less ↦
              let c = call_at q o at_o in
              absurd (all_at (λ call. ¬ StandsBetween has.hit_call.key has.put_call has.hit_call call) history q c.0 could.stands c.1 (between h p q has.hit_call has.put_call c.0 s t o has.hit_at has.put_at c.1 at_s at_t at_o (sym has.one_key) over less))
          | inr not ↦ omega arith
        ];
      }

  none_between : (h p : ℕ) (s t : NumberedCall) (has : HasBegun history h p) → slice_get steps h ≡ Some s → slice_get steps p ≡ Some t → MayRead steps s t → All (λ call. ¬ StandsBetween has.hit_call.key has.put_call has.hit_call call) history
  none_between h p s t has at_s at_t may = all_from_at (λ call. ¬ StandsBetween has.hit_call.key has.put_call has.hit_call call) history (λ q call at stands.
      let o = step_at q call at in
      let over = over_between h p q has.hit_call has.put_call call s t o.0 has.hit_at has.put_at at at_s at_t o.1 has.one_key stands in
      let le = may.stands q o.0 o.1 over.0 in
      let less = over.1 in
      omega arith)

  pub stands_of : (h p : ℕ) (s t : NumberedCall) → slice_get steps h ≡ Some s → slice_get steps p ≡ Some t → s.kind ≡ kinds.Hit → MayRead steps s t → StandsFor history h p
  stands_of h p s t at_s at_t hit may =
      let has = has_begun h p s t at_s at_t hit may.kind may.key may.value may.begun in
      record { has = has; stands = none_between h p s t has at_s at_t may }

  times_of : (h p : ℕ) (s t : NumberedCall) (has : HasBegun history h p) → slice_get steps h ≡ Some s → slice_get steps p ≡ Some t → (s.time ≡ has.moment) × (t.time ≡ has.expires)
  times_of h p s t has at_s at_t = (
    (are.each h has.hit_call s has.hit_at at_s).time ∙ ap time_of has.hit_is,
    (are.each p has.put_call t has.put_at at_t).time ∙ ap time_of has.put_is,
  )

  -- a put that the hit could read, in numbers and back
  pub reads_of : (h p : ℕ) (s t : NumberedCall) → slice_get steps h ≡ Some s → slice_get steps p ≡ Some t → CouldRead history h p → ReadsLive steps s t
  reads_of h p s t at_s at_t could =
      let has = could.lives.has in
      let times = times_of h p s t has at_s at_t in
      record {
        may = may_of h p s t at_s at_t could.stands;
        live = subst (λ e. IsTrue (is_live e s.time)) (sym times.1) (subst (λ m. IsTrue (is_live has.expires m)) (sym times.0) could.lives.live);
      }

  pub could_by : (h p : ℕ) (s t : NumberedCall) → slice_get steps h ≡ Some s → slice_get steps p ≡ Some t → s.kind ≡ kinds.Hit → ReadsLive steps s t → CouldRead history h p
  could_by h p s t at_s at_t hit reads =
      let may = reads.may in
      let has = has_begun h p s t at_s at_t hit may.kind may.key may.value may.begun in
      let times = times_of h p s t has at_s at_t in
      record {
        stands = stands_of h p s t at_s at_t hit may;
        lives = record {
          has = has;
          live = subst (λ e. IsTrue (is_live e has.moment)) times.1 (subst (λ m. IsTrue (is_live t.time m)) times.0 reads.live);
        };
      }

  -- the one that a hit may have read alone
  pub could_of : (h p : ℕ) (s : NumberedCall) → slice_get steps h ≡ Some s → s.kind ≡ kinds.Hit → ReadsOnly steps s p → CouldRead history h p
  could_of h p s at_s hit only = could_by h p s only.put at_s only.at hit only.reads

  pub several_of : (h : ℕ) → HasSeveral history h → IsUnsure steps h
  several_of h two =
      let c = two.first.stands.has in
      let d = two.second.stands.has in
      let s = step_at h c.hit_call c.hit_at in
      let one = step_at two.one c.put_call c.put_at in
      let other = step_at two.other d.put_call d.put_at in
      record {
        step = s.0;
        at = s.1;
        kind = s.2.kind ∙ ap kind_of c.hit_is;
        several = record {
          one = two.one;
          other = two.other;
          first = one.0;
          second = other.0;
          apart = two.apart;
          one_at = one.1;
          other_at = other.1;
          holds_one = reads_of h two.one s.0 one.0 s.1 one.1 two.first;
          holds_other = reads_of h two.other s.0 other.0 s.1 other.1 two.second;
        };
      }

  pub has_several : (h : ℕ) → IsUnsure steps h → HasSeveral history h
  has_several h is =
      let a = is.several in
      record {
        one = a.one;
        other = a.other;
        apart = a.apart;
        first = could_by h a.one is.step a.first is.at a.one_at is.kind a.holds_one;
        second = could_by h a.other is.step a.second is.at a.other_at is.kind a.holds_other;
      }

  -- ---- a hit that can have read no put

  excludes : (h p : ℕ) (hit put : Call) (s t : NumberedCall) (moment expires : ℕ) (why : Excuse) → slice_get history h ≡ Some hit → slice_get history p ≡ Some put → slice_get steps h ≡ Some s → slice_get steps p ≡ Some t → hit.key ≡ put.key → s.time ≡ moment → t.time ≡ expires → ExcludesStep steps s t why → Excludes history hit put moment expires why
  excludes h p hit put s t moment expires Later at_hit at_put at_s at_t same time until why =
      let a = (are.each h hit s at_hit at_s).end in
      let b = (are.each p put t at_put at_t).start in
      omega arith
  excludes h p hit put s t moment expires Expired at_hit at_put at_s at_t same time until why =
      λ live. why (subst (λ e. IsTrue (is_live e s.time)) (sym until) (subst (λ m. IsTrue (is_live expires m)) (sym time) live))
  excludes h p hit put s t moment expires (Replaced write) at_hit at_put at_s at_t same time until why =
      let c = call_at write why.0 why.1 in
      and_some (slice_get history write) (StandsBetween hit.key put hit) c.0 c.1 (between h p write hit put c.0 s t why.0 at_hit at_put c.1 at_s at_t why.1 same why.2 why.3)

  pub reads_none : (h : ℕ) (excluded : List Excluded) → AreExcludedAt steps h excluded → ReadsNone history h excluded
  reads_none h excluded is =
      let hc = call_at h is.hit is.at in
      let hv = hit_at h hc.0 is.hit hc.2 is.kind in
      record {
        call = hc.0;
        value = hv.0;
        moment = hv.1;
        at = hc.1;
        is = hv.2;
        excluded = All-weaker (IsExcludedStep steps is.hit) (IsExcluded history hc.0 hv.0 hv.1) (λ e one.
            let pc = call_at e.put one.put one.at in
            let pv = put_at e.put pc.0 one.put pc.2 one.like.kind in
            let alike = are.alike e.put h pc.0 hc.0 one.put is.hit pc.1 hc.1 one.at is.at in
            let key : pc.0.key ≡ hc.0.key = alike.keys.0 one.like.key in
            let value : pv.0 ≡ hv.0 = sym (ap value_of pv.2) ∙ alike.values.0 one.like.value ∙ ap value_of hv.2 in
            record {
              put = pc.0;
              expires = pv.1;
              put_at = pc.1;
              put_is = pv.2 ∙ ap (λ v. Put v pv.1) value;
              one_key = key;
              why = excludes h e.put hc.0 pc.0 is.hit one.put hv.1 pv.1 e.why hc.1 pc.1 is.at one.at (sym key) hv.3 pv.3 one.why;
            }) excluded is.puts.each;
        all = λ p put expires at put_is key.
            let t = step_at p put at in
            let alike = are.alike p h put hc.0 t.0 is.hit at hc.1 t.1 is.at in
            is.puts.all p t.0 t.1 (record {
              kind = t.2.kind ∙ ap kind_of put_is;
              key = alike.keys.1 key;
              value = alike.values.1 (ap value_of put_is ∙ sym (ap value_of hv.2));
            });
        once = is.puts.once;
      }

  -- ---- two writes that are crossed

  pub goes_with : (owners : List ℕ) (write q : ℕ) (s : NumberedCall) → AreSingle steps owners → slice_get steps q ≡ Some s → Goes owners write q → GoesWith history write q
  goes_with owners write q s own at goes = elim goes [
    | inl same ↦ inl same
    | inr owned ↦ elim (own.owned q s write at owned) [
      | inl alone ↦ inl (sym alone)
      | inr hit ↦
          let c = call_at q s at in
          let v = hit_at q c.0 s c.2 hit.0 in
          inr (
            c.0,
            v.0,
            v.1,
            c.1,
            v.2,
            λ put could.
                let p = step_at put could.stands.has.put_call could.stands.has.put_at in
                hit.1.only put p.0 p.1 (reads_of q put s p.0 at p.1 could),
          )
    ]
  ]

  module _ (owners : List ℕ) (own : AreSingle steps owners) (zones : List Zone) (zs : AreZones steps owners zones) where
    is_side : (one other : Zone) (key : List ℕ) (v : Call) → (tells : TellsOne steps Writing (TellsZone steps owners) one) → (others : TellsOne steps Writing (TellsZone steps owners) other) → slice_get history tells.position ≡ Some v → v.key ≡ key → one.end < other.start → IsSide history key (record { write = one.write; early = one.early; late = one.late }) (record { write = other.write; early = other.early; late = other.late })
    is_side one other key v tells others at same less =
        let here : one.write ≡ tells.position = tells.told.write in
        let vs = are.each tells.position v tells.step at tells.at in
        let early = call_at one.early tells.told.first tells.told.earliest.at in
        let late = call_at other.late others.told.last others.told.latest.at in
        let a = early.2.end in
        let b = late.2.start in
        let c = tells.told.end in
        let d = others.told.start in
        record {
          writes = and_some (slice_get history one.write) (λ w. Writes (deed_of w) key) v (ap (slice_get history) here ∙ at) (same, write_of v.act (subst IsWriting vs.kind tells.is_wanted));
          early_goes = subst (λ w. GoesWith history w one.early) (sym here) (goes_with owners tells.position one.early tells.told.first own tells.told.earliest.at tells.told.earliest.goes);
          late_goes = subst (λ w. GoesWith history w one.late) (sym here) (goes_with owners tells.position one.late tells.told.last own tells.told.latest.at tells.told.latest.goes);
          precedes = and_some (slice_get history one.early) (λ e. IsSomeAnd (slice_get history other.late) (λ l. Precedes e l)) early.0 early.1 (and_some (slice_get history other.late) (λ l. Precedes early.0 l) late.0 late.1 (omega arith));
        }

    pub are_crossed : (one other : Zone) → AreCrossing zones (record { one = one; other = other }) → AreCrossed history (record { write = one.write; early = one.early; late = one.late }) (record { write = other.write; early = other.early; late = other.late })
    are_crossed one other crossing =
        let t = All-contains (TellsOne steps Writing (TellsZone steps owners)) zones one zs.lists.sound crossing.one_listed in
        let o = All-contains (TellsOne steps Writing (TellsZone steps owners)) zones other zs.lists.sound crossing.other_listed in
        let v = call_at t.position t.step t.at in
        let w = call_at o.position o.step o.at in
        let alike = are.alike o.position t.position w.0 v.0 o.step t.step w.1 v.1 o.at t.at in
        let key : w.0.key ≡ v.0.key = alike.keys.0 (sym o.told.key ∙ sym crossing.key ∙ t.told.key) in
        record {
          key = v.0.key;
          apart = crossing.apart;
          first = is_side one other v.0.key v.0 t o v.1 refl crossing.forth;
          second = is_side other one v.0.key w.0 o t w.1 key crossing.back;
        }
