-- A put: the book refused it, or the store refused what was entered, or it was stored.
use Rattle.std.proofs.Common.{Ok, Err, Result, ℕ, List, refl, ◌≡◌, ◌↔◌, [], ◌∷◌, ◌++◌, sym, ◌∙◌, ap, subst}
use Rattle.trace_file.specs.declared.act.Act.TheVariants.{Remove}
use Rattle.record_pages.specs.Bounded.{IsKey}
use Rattle.record_pages.specs.Expiry.{timed}
use Rattle.record_pages.specs.declared.pushed.Pushed.{Pushed}
use Rattle.certificate_checker.specs.Deeds.{Deed}
use Rattle.deed_book.specs.Registers.{Registered, EntersIn}
use Rattle.deed_book.specs.declared.register.EntryFault.TheVariants.{Full}
use Rattle.service_cache.specs.Seated.{Seated, IsSeated, put_of, HasNoRoom, IsForgotten}
use Rattle.service_cache.proofs.Seating.{seated_put, seated_removed, seated_forgotten}
use Rattle.service_cache.proofs.Refusing.{refused_put, put_full_exactly, entered_exactly, stored_fits}
use Rattle.service_lane.specs.Counting.{counts_refused_put}
use Rattle.service_lane.specs.Serving.{Serving, PutsStore, Removes}
use Rattle.service_cache.specs.declared.seat_fault.SeatPutFault.{SeatPutFault}
use Rattle.service_cache.specs.declared.seat_fault.SeatPutFault.TheVariants as put_refusals
use Rattle.service_cache.proofs.Answering.{object_exactly}
use Rattle.service_cache.proofs.Honesty.{puts_keep, removes_keep, said_kept}
use denote.Param.{param, number}
use Rattle.service_cache.proofs.Fitting.{lane_fits}
use Rattle.service_cache.proofs.lane.SeatedLane.put.Goals as goal

pub invariant_of-self : goal.invariant_of-self
invariant_of-self g c =
    let lane_of = g.L.KeyLanes.lane_of in
    let i = c.self.inside in
    let why = c.in-Err.ensures in
    let after = c.enter_or_remove.new.lane.deeds in (
      subst (λ (r : Registered). IsSeated lane_of r after) (sym why.refused.0) (seated_forgotten lane_of i.register i.lane.deeds c.self.invariant.0 c.bytes-bytes.result.now after why.removed.deeds),
      said_kept g.L.KeyLanes.is_honest g.D.PageDevice.honest c.self.inside.register c.self.inside.lane c.enter_or_remove.new.register c.enter_or_remove.new.lane
          (ap (λ (r : Registered). r.number) why.refused.0)
          (removes_keep g.row.PAGE g.D.PageDevice.honest g.D.PageDevice.failures g.D.PageDevice.held c.bytes-bytes.result.now i.lane c.enter_or_remove.new.lane why.removed)
          c.self.invariant.1,
    )

pub invariant_of-self-in-Err-put_or_remove : goal.invariant_of-self-in-Err-put_or_remove
invariant_of-self-in-Err-put_or_remove g c =
    let lane_of = g.L.KeyLanes.lane_of in
    let i = c.self.inside in
    let put : Deed = put_of c.args.key c.args.value c.args.expires in
    let register = c.enter_or_remove.new.register in
    let seat = c.enter_or_remove.new.seat in
    let enters : EntersIn lane_of i.register c.args.seat.now put register seat = subst (λ (w : Deed). EntersIn lane_of i.register c.args.seat.now w register seat) c.put-put.ensures c.in-Ok.ensures.entered in
    let removal : Deed = record { key = c.args.key; act = Remove } in
    let between = c.enter_or_remove.new.lane in
    let counted : Serving g.row.D.Denot = record between { counts = counts_refused_put c.in-Err-put_or_remove.fault between.counts } in
    let gone : c.put_or_remove.new.self.deeds ≡ i.lane.deeds ++ removal ∷ [] = c.in-Err-put_or_remove.ensures.removed.deeds ∙ ap (λ (s : Serving g.row.D.Denot). s.deeds ++ removal ∷ []) c.in-Ok.ensures.stays in (
      seated_removed lane_of i.register i.lane.deeds c.self.invariant.0 put c.put_or_remove.new.self.deeds c.args.seat.now seat register gone enters,
      said_kept g.L.KeyLanes.is_honest g.D.PageDevice.honest c.self.inside.register c.self.inside.lane register c.put_or_remove.new.self
          enters.number
          (removes_keep g.row.PAGE g.D.PageDevice.honest g.D.PageDevice.failures g.D.PageDevice.held c.args.key counted c.put_or_remove.new.self c.in-Err-put_or_remove.ensures.removed ∙ ap (λ (s : Serving g.row.D.Denot). g.D.PageDevice.honest s.store.device) c.in-Ok.ensures.stays)
          c.self.invariant.1,
    )

pub invariant_of-self-2 : goal.invariant_of-self-2
invariant_of-self-2 g c =
    let lane_of = g.L.KeyLanes.lane_of in
    let i = c.self.inside in
    let put : Deed = put_of c.args.key c.args.value c.args.expires in
    let register = c.enter_or_remove.new.register in
    let seat = c.enter_or_remove.new.seat in
    let enters : EntersIn lane_of i.register c.args.seat.now put register seat = subst (λ (w : Deed). EntersIn lane_of i.register c.args.seat.now w register seat) c.put-put.ensures c.in-Ok.ensures.entered in
    let stored : c.put_or_remove.new.self.deeds ≡ i.lane.deeds ++ put ∷ [] = c.in-Ok-put_or_remove.ensures.stored.deeds ∙ ap (λ (s : Serving g.row.D.Denot). s.deeds ++ put ∷ []) c.in-Ok.ensures.stays in (
      seated_put lane_of i.register i.lane.deeds c.self.invariant.0 c.args.key c.args.value c.args.expires c.put_or_remove.new.self.deeds c.args.seat.now seat register stored enters,
      said_kept g.L.KeyLanes.is_honest g.D.PageDevice.honest c.self.inside.register c.self.inside.lane register c.put_or_remove.new.self
          enters.number
          (puts_keep g.row.PAGE g.D.PageDevice.honest g.D.PageDevice.failures g.D.PageDevice.held c.args.key c.args.value c.args.expires c.args.word c.in-Ok-put_or_remove.pushed c.enter_or_remove.new.lane c.put_or_remove.new.self c.in-Ok-put_or_remove.ensures.stored ∙ ap (λ (s : Serving g.row.D.Denot). g.D.PageDevice.honest s.store.device) c.in-Ok.ensures.stays)
          c.self.invariant.1,
    )

-- ---- the book refused it

pub returns-in-Err-clause-stored : goal.returns-in-Err-clause-stored
returns-in-Err-clause-stored g c = tt

pub returns-in-Err-clause-entered : goal.returns-in-Err-clause-entered
returns-in-Err-clause-entered g c = tt

pub returns-in-Err-clause-cause : goal.returns-in-Err-clause-cause
returns-in-Err-clause-cause g c = tt

pub returns-in-Err-clause-fits : goal.returns-in-Err-clause-fits
returns-in-Err-clause-fits g c = tt

pub returns-in-Err-clause-full : goal.returns-in-Err-clause-full
returns-in-Err-clause-full g c =
    let fault = c.in-Err.fault in
    subst (λ (s : Seated g.row.D.Denot). (◌≡◌ {A = Result Pushed SeatPutFault} (Err (put_refusals.Book fault)) (Err (put_refusals.Book Full))) ↔ HasNoRoom g.L.KeyLanes.lane_of s.register) c.self.view_is
    (put_full_exactly {X = Pushed} (Err (put_refusals.Book fault)) fault _ refl c.in-Err.ensures.full)

pub returns-in-Err-clause-refused : goal.returns-in-Err-clause-refused
returns-in-Err-clause-refused g c =
    let why = c.in-Err.ensures in
    let held = g.D.PageDevice.held in
    let i = c.self.inside in
    let lane = c.enter_or_remove.new.lane in
    let seat = c.enter_or_remove.new.seat in
    let new : Seated g.row.D.Denot = record { serving = lane; register = c.enter_or_remove.new.register; words = c.self.inside.words } in
    let removed : Removes held c.args.key i.lane lane = subst (λ (k : List ℕ). Removes held k i.lane lane) c.bytes-bytes.ensures.value why.removed in
    subst (λ (s : Seated g.row.D.Denot). IsForgotten held c.args.key s c.args.seat.now new seat) c.self.view_is (removed, why.refused.0, why.refused.1)

-- ---- the store refused it

pub returns-in-Err-put_or_remove-clause-stored : goal.returns-in-Err-put_or_remove-clause-stored
returns-in-Err-put_or_remove-clause-stored g c = tt

pub returns-in-Err-put_or_remove-clause-entered : goal.returns-in-Err-put_or_remove-clause-entered
returns-in-Err-put_or_remove-clause-entered g c = tt

pub returns-in-Err-put_or_remove-clause-fits : goal.returns-in-Err-put_or_remove-clause-fits
returns-in-Err-put_or_remove-clause-fits g c = tt

pub returns-in-Err-put_or_remove-clause-cause : goal.returns-in-Err-put_or_remove-clause-cause
returns-in-Err-put_or_remove-clause-cause g c =
    let e = c.in-Err-put_or_remove in
    refused_put g.row.PAGE c.args.key c.args.value (Err e.fault) e.fault refl e.ensures.large

pub returns-in-Err-put_or_remove-clause-full : goal.returns-in-Err-put_or_remove-clause-full
returns-in-Err-put_or_remove-clause-full g c =
    let fault = c.in-Err-put_or_remove.fault in
    subst (λ (s : Seated g.row.D.Denot). (◌≡◌ {A = Result Pushed SeatPutFault} (Err (put_refusals.Put fault)) (Err (put_refusals.Book Full))) ↔ HasNoRoom g.L.KeyLanes.lane_of s.register) c.self.view_is
    (object_exactly {X = Pushed} (Err (put_refusals.Put fault)) fault _ _ refl c.in-Ok.ensures.full)

pub returns-in-Err-put_or_remove-clause-refused : goal.returns-in-Err-put_or_remove-clause-refused
returns-in-Err-put_or_remove-clause-refused g c =
    let lane_of = g.L.KeyLanes.lane_of in
    let held = g.D.PageDevice.held in
    let a = c.args in
    let i = c.self.inside in
    let fault = c.in-Err-put_or_remove.fault in
    let put : Deed = put_of a.key a.value a.expires in
    let register = c.enter_or_remove.new.register in
    let seat = c.enter_or_remove.new.seat in
    let new = c.put_or_remove.new.self in
    let enters : EntersIn lane_of i.register a.seat.now put register seat = subst (λ (w : Deed). EntersIn lane_of i.register a.seat.now w register seat) c.put-put.ensures c.in-Ok.ensures.entered in
    let removed = subst (λ (s : Serving g.row.D.Denot). Removes held a.key (record s { counts = counts_refused_put fault s.counts }) new) c.in-Ok.ensures.stays c.in-Err-put_or_remove.ensures.removed in
    subst (λ (s : Seated g.row.D.Denot). EntersIn lane_of s.register a.seat.now put register seat × Removes held a.key (record s.serving { counts = counts_refused_put fault s.serving.counts }) new) c.self.view_is (enters, removed)

-- ---- it was stored

pub returns-clause-stored : goal.returns-clause-stored
returns-clause-stored g c =
    let held = g.D.PageDevice.held in
    let a = c.args in
    let o = c.in-Ok-put_or_remove in
    let new = c.put_or_remove.new.self in
    let stored = subst (λ (s : Serving g.row.D.Denot). PutsStore g.row.PAGE held (record { key = a.key; value = timed a.value a.expires }) a.word o.pushed s new) c.in-Ok.ensures.stays o.ensures.stored in
    subst (λ (s : Seated g.row.D.Denot). PutsStore g.row.PAGE held (record { key = a.key; value = timed a.value a.expires }) a.word o.pushed s.serving new) c.self.view_is stored

pub returns-clause-entered : goal.returns-clause-entered
returns-clause-entered g c =
    let lane_of = g.L.KeyLanes.lane_of in
    let a = c.args in
    let put : Deed = put_of a.key a.value a.expires in
    let register = c.enter_or_remove.new.register in
    let seat = c.enter_or_remove.new.seat in
    let enters : EntersIn lane_of c.self.inside.register a.seat.now put register seat = subst (λ (w : Deed). EntersIn lane_of c.self.inside.register a.seat.now w register seat) c.put-put.ensures c.in-Ok.ensures.entered in
    subst (λ (s : Seated g.row.D.Denot). EntersIn lane_of s.register a.seat.now put register seat) c.self.view_is enters

pub returns-clause-cause : goal.returns-clause-cause
returns-clause-cause g c = tt

pub returns-clause-fits : goal.returns-clause-fits
returns-clause-fits g c = stored_fits g.row.PAGE c.args.key c.args.value c.in-Ok-put_or_remove.pushed c.in-Ok-put_or_remove.ensures.large

pub returns-clause-full : goal.returns-clause-full
returns-clause-full g c =
    let pushed = c.in-Ok-put_or_remove.pushed in
    subst (λ (s : Seated g.row.D.Denot). (◌≡◌ {A = Result Pushed SeatPutFault} (Ok pushed) (Err (put_refusals.Book Full))) ↔ HasNoRoom g.L.KeyLanes.lane_of s.register) c.self.view_is
    (entered_exactly pushed _ _ c.in-Ok.ensures.full)

pub returns-clause-refused : goal.returns-clause-refused
returns-clause-refused g c = tt

pub put_or_remove-requires : goal.put_or_remove-requires
put_or_remove-requires g c = lane_fits (param 0 g.row.D) (param 1 (number g.row.PAGE)) (param 2 g.row.L) (param 3 g.row.J) g.D.PageDevice g.L.KeyLanes g.J.BookName assumption

pub enter_or_remove-requires : goal.enter_or_remove-requires
enter_or_remove-requires g c =
    let ours = ap (λ (w : Deed). g.L.KeyLanes.lane_of w.key) c.put-put.ensures ∙ (c.requires ∙ sym (ap (λ (s : Seated g.row.D.Denot). s.register.number) c.self.view_is)) in
    (lane_fits (param 0 g.row.D) (param 1 (number g.row.PAGE)) (param 2 g.row.L) (param 3 g.row.J) g.D.PageDevice g.L.KeyLanes g.J.BookName assumption, (ours, subst IsKey (sym c.bytes-bytes.ensures.value) c.bytes-bytes.ensures.range))

pub returns-in-Err-clause-words : goal.returns-in-Err-clause-words
returns-in-Err-clause-words g c = ap (λ s. s.words) c.self.view_is

pub returns-in-Err-put_or_remove-clause-words : goal.returns-in-Err-put_or_remove-clause-words
returns-in-Err-put_or_remove-clause-words g c = ap (λ s. s.words) c.self.view_is

pub returns-clause-words : goal.returns-clause-words
returns-clause-words g c = ap (λ s. s.words) c.self.view_is
