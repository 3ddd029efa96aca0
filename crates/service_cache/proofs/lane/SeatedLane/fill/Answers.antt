-- A fill: the store refused it, or it is stale, or the book refused what was stored, or it was entered.
use Rattle.std.proofs.Common.{Ok, Err, Result, refl, ◌≡◌, ◌↔◌, ℕ, List, [], ◌∷◌, ◌++◌, sym, ◌∙◌, ap, subst}
use Rattle.trace_file.specs.declared.act.Act.TheVariants.{Remove}
use Rattle.record_pages.specs.declared.put_fault.PutFault.TheVariants as puts
use Rattle.certificate_checker.specs.Deeds.{Deed}
use Rattle.deed_book.specs.Registers.{Registered, EntersIn}
use Rattle.deed_book.specs.declared.register.EntryFault.TheVariants as entries
use Rattle.service_lane.specs.Serving.{Serving, Removes}
use Rattle.service_lane.specs.Leases.{HoldsLease}
use Rattle.service_lane.specs.declared.filled.Filled.{Filled}
use Rattle.service_lane.specs.declared.filled.Filled.TheVariants.{Stored, Stale}
use Rattle.service_cache.specs.Seated.{Seated, IsSeated, put_of, FillRefusalLeaves}
use Rattle.service_cache.specs.declared.seat_fault.SeatPutFault.{SeatPutFault}
use Rattle.service_cache.specs.declared.seat_fault.SeatPutFault.TheVariants as put_refusals
use Rattle.service_cache.proofs.Seating.{seated_put, seated_undone}
use Rattle.service_cache.proofs.Refusing.{not_stale, put_full_exactly}
use Rattle.service_cache.proofs.Answering.{not_by_book, not_by_store, refused_not_stale, is_stale, is_large}
use Rattle.service_cache.proofs.Honesty.{fills_keep, removes_keep, said_kept}
use denote.Param.{param, number}
use Rattle.service_cache.proofs.Fitting.{lane_fits}
use Rattle.service_cache.proofs.lane.SeatedLane.fill.Goals as goal

pub invariant_of-self-in-Err-fill : goal.invariant_of-self-in-Err-fill
invariant_of-self-in-Err-fill g c = (
  subst (λ (ds : List Deed). IsSeated g.L.KeyLanes.lane_of c.self.inside.register ds) (sym (ap (λ s. s.deeds) c.in-Err.ensures.refused)) c.self.invariant.0,
  said_kept g.L.KeyLanes.is_honest g.D.PageDevice.honest c.self.inside.register c.self.inside.lane c.self.inside.register c.fill.new.self
      refl
      (ap (λ (s : Serving g.row.D.Denot). g.D.PageDevice.honest s.store.device) c.in-Err.ensures.refused)
      c.self.invariant.1,
)

pub invariant_of-self-in-Stale-1 : goal.invariant_of-self-in-Stale-1
invariant_of-self-in-Stale-1 g c =
    let stale = rw c.in-Ok-Stale.field-0-is at c.in-Ok-Stale.ensures.filled in (
      subst (λ (ds : List Deed). IsSeated g.L.KeyLanes.lane_of c.self.inside.register ds) (sym (ap (λ s. s.deeds) stale)) c.self.invariant.0,
      said_kept g.L.KeyLanes.is_honest g.D.PageDevice.honest c.self.inside.register c.self.inside.lane c.self.inside.register c.fill.new.self
          refl
          (ap (λ (s : Serving g.row.D.Denot). g.D.PageDevice.honest s.store.device) stale)
          c.self.invariant.1,
    )

pub invariant_of-self-in-Ok-Stored : goal.invariant_of-self-in-Ok-Stored
invariant_of-self-in-Ok-Stored g c =
    let lane_of = g.L.KeyLanes.lane_of in
    let i = c.self.inside in
    let a = c.args in
    let stored = rw c.in-Ok-Stored.field-0-is at c.in-Ok-Stored.ensures.filled in
    let register = c.enter_or_remove.new.register in
    let seat = c.enter_or_remove.new.seat in
    let enters : EntersIn lane_of i.register a.seat.now (put_of a.key a.value a.expires) register seat = subst (λ (w : Deed). EntersIn lane_of i.register a.seat.now w register seat) c.put-put.ensures c.in_default.ensures.entered in (
      seated_put lane_of i.register i.lane.deeds c.self.invariant.0 a.key a.value a.expires c.enter_or_remove.new.lane.deeds a.seat.now seat register (ap (λ s. s.deeds) c.in_default.ensures.stays ∙ stored.deeds) enters,
      said_kept g.L.KeyLanes.is_honest g.D.PageDevice.honest c.self.inside.register c.self.inside.lane register c.enter_or_remove.new.lane
          enters.number
          (ap (λ (s : Serving g.row.D.Denot). g.D.PageDevice.honest s.store.device) c.in_default.ensures.stays ∙ fills_keep g.row.PAGE g.D.PageDevice.honest g.D.PageDevice.failures g.D.PageDevice.held a.key a.value a.expires a.word a.lease c.in-Ok-Stored.pushed i.lane c.fill.new.self stored)
          c.self.invariant.1,
    )

pub invariant_of-self : goal.invariant_of-self
invariant_of-self g c =
    let lane_of = g.L.KeyLanes.lane_of in
    let i = c.self.inside in
    let a = c.args in
    let why = c.in-Err-enter_or_remove.ensures in
    let after = c.enter_or_remove.new.lane.deeds in
    let between = c.fill.new.self.deeds in
    let stored = rw c.in-Ok-Stored.field-0-is at c.in-Ok-Stored.ensures.filled in
    let gone : after ≡ between ++ record { key = a.key; act = Remove } ∷ [] = why.removed.deeds ∙ ap (λ (k : List ℕ). between ++ record { key = k; act = Remove } ∷ []) (c.bytes-bytes.ensures.bytes ∙ c.of-copy.ensures) in
    let undone : IsSeated lane_of i.register after = seated_undone lane_of i.register i.lane.deeds c.self.invariant.0 (put_of a.key a.value a.expires) between after stored.deeds gone in (
      subst (λ (r : Registered). IsSeated lane_of r after) (sym why.refused.0) undone,
      said_kept g.L.KeyLanes.is_honest g.D.PageDevice.honest c.self.inside.register c.self.inside.lane c.enter_or_remove.new.register c.enter_or_remove.new.lane
          (ap (λ (r : Registered). r.number) why.refused.0)
          (removes_keep g.row.PAGE g.D.PageDevice.honest g.D.PageDevice.failures g.D.PageDevice.held c.bytes-bytes.result.now c.fill.new.self c.enter_or_remove.new.lane why.removed ∙ fills_keep g.row.PAGE g.D.PageDevice.honest g.D.PageDevice.failures g.D.PageDevice.held a.key a.value a.expires a.word a.lease c.in-Ok-Stored.pushed i.lane c.fill.new.self stored)
          c.self.invariant.1,
    )

-- ---- the store refused it

pub returns-in-Err-clause-stale : goal.returns-in-Err-clause-stale
returns-in-Err-clause-stale g c =
    let fault = c.in-Err.fault in
    subst (λ (s : Seated g.row.D.Denot). (◌≡◌ {A = Result Filled SeatPutFault} (Err (put_refusals.Put fault)) (Ok Stale)) ↔ (HoldsLease s.serving.slots c.args.key c.args.lease → ⊥)) c.self.view_is
    (refused_not_stale (Err (put_refusals.Put fault)) (put_refusals.Put fault) fault _ refl c.in-Err.ensures.stale)

pub returns-in-Err-clause-filled : goal.returns-in-Err-clause-filled
returns-in-Err-clause-filled g c = tt

pub returns-in-Err-clause-entered : goal.returns-in-Err-clause-entered
returns-in-Err-clause-entered g c = tt

pub returns-in-Err-clause-room : goal.returns-in-Err-clause-room
returns-in-Err-clause-room g c = tt

pub returns-in-Err-clause-full : goal.returns-in-Err-clause-full
returns-in-Err-clause-full g c = not_by_book {X = Filled} (Err (put_refusals.Put c.in-Err.fault)) c.in-Err.fault entries.Full _ refl

pub returns-in-Err-clause-large : goal.returns-in-Err-clause-large
returns-in-Err-clause-large g c = is_large {X = Filled} (Err (put_refusals.Put c.in-Err.fault)) c.in-Err.fault _ _ refl c.in-Err.ensures.large

pub returns-in-Err-clause-refused : goal.returns-in-Err-clause-refused
returns-in-Err-clause-refused g c =
    let a = c.args in
    let i = c.self.inside in
    let new : Seated g.row.D.Denot = record { serving = c.fill.new.self; register = i.register; words = i.words } in
    let counted : ◌≡◌ {A = Seated g.row.D.Denot} new (record { serving = _; register = i.register; words = i.words }) = ap (λ (s : Serving g.row.D.Denot). record { serving = s; register = i.register; words = i.words }) c.in-Err.ensures.refused in
    subst (λ (s : Seated g.row.D.Denot). FillRefusalLeaves g.row.PAGE g.D.PageDevice.held a.key a.value a.expires a.word a.lease (put_refusals.Put c.in-Err.fault) s a.seat.now new a.seat.now) c.self.view_is (counted, refl)

-- ---- it is stale

pub returns-in-Ok-Stale-clause-stale : goal.returns-in-Ok-Stale-clause-stale
returns-in-Ok-Stale-clause-stale g c =
    let stale = rw c.in-Ok-Stale.field-0-is at c.in-Ok-Stale.ensures.stale in
    rw (← c.self.view_is) (is_stale _ stale)

pub returns-in-Ok-Stale-clause-filled : goal.returns-in-Ok-Stale-clause-filled
returns-in-Ok-Stale-clause-filled g c =
    let stale = rw c.in-Ok-Stale.field-0-is at c.in-Ok-Stale.ensures.filled in
    rw (← c.self.view_is) stale

pub returns-in-Ok-Stale-clause-entered : goal.returns-in-Ok-Stale-clause-entered
returns-in-Ok-Stale-clause-entered g c = (ap (λ s. s.register) c.self.view_is, refl)

pub returns-in-Ok-Stale-clause-room : goal.returns-in-Ok-Stale-clause-room
returns-in-Ok-Stale-clause-room g c = tt

pub returns-in-Ok-Stale-clause-full : goal.returns-in-Ok-Stale-clause-full
returns-in-Ok-Stale-clause-full g c = λ e. absurd (cc)

pub returns-in-Ok-Stale-clause-large : goal.returns-in-Ok-Stale-clause-large
returns-in-Ok-Stale-clause-large g c = λ e. absurd (cc)

pub returns-in-Ok-Stale-clause-refused : goal.returns-in-Ok-Stale-clause-refused
returns-in-Ok-Stale-clause-refused g c = tt

-- ---- the book refused what was stored

pub returns-in-Err-enter_or_remove-clause-stale : goal.returns-in-Err-enter_or_remove-clause-stale
returns-in-Err-enter_or_remove-clause-stale g c =
    let o = c.in-Ok-Stored in
    rw (← c.self.view_is) (not_stale (Ok o.field-0) _ o.pushed _ (ap Ok o.field-0-is) o.ensures.stale (λ is. cc))

pub returns-in-Err-enter_or_remove-clause-filled : goal.returns-in-Err-enter_or_remove-clause-filled
returns-in-Err-enter_or_remove-clause-filled g c = tt

pub returns-in-Err-enter_or_remove-clause-entered : goal.returns-in-Err-enter_or_remove-clause-entered
returns-in-Err-enter_or_remove-clause-entered g c = tt

pub returns-in-Err-enter_or_remove-clause-room : goal.returns-in-Err-enter_or_remove-clause-room
returns-in-Err-enter_or_remove-clause-room g c = tt

pub returns-in-Err-enter_or_remove-clause-full : goal.returns-in-Err-enter_or_remove-clause-full
returns-in-Err-enter_or_remove-clause-full g c =
    let fault = c.in-Err-enter_or_remove.fault in
    rw (← c.self.view_is) (put_full_exactly {X = Filled} (Err (put_refusals.Book fault)) fault _ refl c.in-Err-enter_or_remove.ensures.full).0

pub returns-in-Err-enter_or_remove-clause-large : goal.returns-in-Err-enter_or_remove-clause-large
returns-in-Err-enter_or_remove-clause-large g c = not_by_store _ c.in-Err-enter_or_remove.fault puts.TooLarge _ refl

pub returns-in-Err-enter_or_remove-clause-refused : goal.returns-in-Err-enter_or_remove-clause-refused
returns-in-Err-enter_or_remove-clause-refused g c =
    let held = g.D.PageDevice.held in
    let a = c.args in
    let why = c.in-Err-enter_or_remove.ensures in
    let between = c.fill.new.self in
    let lane = c.enter_or_remove.new.lane in
    let seat = c.enter_or_remove.new.seat in
    let new : Seated g.row.D.Denot = record { serving = lane; register = c.enter_or_remove.new.register; words = c.self.inside.words } in
    let stored = rw c.in-Ok-Stored.field-0-is at c.in-Ok-Stored.ensures.filled in
    let removed : Removes held a.key between lane = subst (λ (k : List ℕ). Removes held k between lane) (c.bytes-bytes.ensures.bytes ∙ c.of-copy.ensures) why.removed in
    subst (λ (s : Seated g.row.D.Denot). FillRefusalLeaves g.row.PAGE held a.key a.value a.expires a.word a.lease (put_refusals.Book c.in-Err-enter_or_remove.fault) s a.seat.now new seat) c.self.view_is
    (record { pushed = c.in-Ok-Stored.pushed; between = between; fills = stored; removes = removed }, why.refused.0, why.refused.1)

-- ---- it was entered

pub returns-in_default-clause-stale : goal.returns-in_default-clause-stale
returns-in_default-clause-stale g c =
    let o = c.in-Ok-Stored in
    rw (← c.self.view_is) (not_stale (Ok o.field-0) _ o.pushed _ (ap Ok o.field-0-is) o.ensures.stale (λ is. cc))

pub returns-in_default-clause-filled : goal.returns-in_default-clause-filled
returns-in_default-clause-filled g c =
    let stored = rw c.in-Ok-Stored.field-0-is at c.in-Ok-Stored.ensures.filled in
    rw (← c.self.view_is) (rw c.in_default.ensures.stays stored)

pub returns-in_default-clause-entered : goal.returns-in_default-clause-entered
returns-in_default-clause-entered g c =
    let lane_of = g.L.KeyLanes.lane_of in
    let a = c.args in
    let put : Deed = put_of a.key a.value a.expires in
    let register = c.enter_or_remove.new.register in
    let seat = c.enter_or_remove.new.seat in
    let enters : EntersIn lane_of c.self.inside.register a.seat.now put register seat = subst (λ (w : Deed). EntersIn lane_of c.self.inside.register a.seat.now w register seat) c.put-put.ensures c.in_default.ensures.entered in
    subst (λ (s : Seated g.row.D.Denot). EntersIn lane_of s.register a.seat.now put register seat) c.self.view_is enters

pub returns-in_default-clause-room : goal.returns-in_default-clause-room
returns-in_default-clause-room g c = rw (← c.self.view_is) (λ none. absurd (let no = c.in_default.ensures.full.1 none in cc))

pub returns-in_default-clause-full : goal.returns-in_default-clause-full
returns-in_default-clause-full g c = λ e. absurd (cc)

pub returns-in_default-clause-large : goal.returns-in_default-clause-large
returns-in_default-clause-large g c = λ e. absurd (cc)

pub returns-in_default-clause-refused : goal.returns-in_default-clause-refused
returns-in_default-clause-refused g c = tt

pub fill-requires : goal.fill-requires
fill-requires g c = lane_fits (param 0 g.row.D) (param 1 (number g.row.PAGE)) (param 2 g.row.L) (param 3 g.row.J) g.D.PageDevice g.L.KeyLanes g.J.BookName assumption

pub enter_or_remove-requires : goal.enter_or_remove-requires
enter_or_remove-requires g c =
    let ours = ap (λ (w : Deed). g.L.KeyLanes.lane_of w.key) c.put-put.ensures ∙ (c.requires ∙ sym (ap (λ (s : Seated g.row.D.Denot). s.register.number) c.self.view_is)) in
    (lane_fits (param 0 g.row.D) (param 1 (number g.row.PAGE)) (param 2 g.row.L) (param 3 g.row.J) g.D.PageDevice g.L.KeyLanes g.J.BookName assumption, (ours, c.bytes-bytes.ensures.range))

pub returns-in-Err-clause-words : goal.returns-in-Err-clause-words
returns-in-Err-clause-words g c = ap (λ s. s.words) c.self.view_is

pub returns-in-Ok-Stale-clause-words : goal.returns-in-Ok-Stale-clause-words
returns-in-Ok-Stale-clause-words g c = ap (λ s. s.words) c.self.view_is

pub returns-in-Err-enter_or_remove-clause-words : goal.returns-in-Err-enter_or_remove-clause-words
returns-in-Err-enter_or_remove-clause-words g c = ap (λ s. s.words) c.self.view_is

pub returns-in_default-clause-words : goal.returns-in_default-clause-words
returns-in_default-clause-words g c = ap (λ s. s.words) c.self.view_is
