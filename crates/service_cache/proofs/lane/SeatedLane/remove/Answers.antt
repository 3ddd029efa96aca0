-- A removal: the bytes are no key's, or the book refused it, or it was entered.
use Rattle.std.proofs.Common.{Ok, Err, ◌≡◌, List, refl, ap, sym, ◌∙◌, subst}
use Rattle.trace_file.specs.declared.act.Act.TheVariants.{Remove}
use Rattle.certificate_checker.specs.Deeds.{Deed}
use Rattle.deed_book.specs.Registers.{Registered, EntersIn}
use Rattle.service_cache.specs.Seated.{IsSeated, Seated, IsForgotten}
use Rattle.service_cache.proofs.Seating.{seated_removed, seated_forgotten}
use Rattle.service_cache.proofs.Refusing.{is_key, full_exactly}
use Rattle.service_lane.specs.Serving.{Serving, Removes}
use Rattle.service_cache.specs.declared.seat_fault.SeatFault.TheVariants as refusals
use Rattle.service_cache.proofs.Answering.{removal_by, book_unasked, removal_entered}
use Rattle.service_cache.proofs.Honesty.{removes_keep, said_kept}
use denote.Param.{param, number}
use Rattle.service_cache.proofs.Fitting.{lane_fits}
use Rattle.service_cache.proofs.lane.SeatedLane.remove.Goals as goal

pub enter-requires : goal.enter-requires
enter-requires g c = ap (λ (w : Deed). g.L.KeyLanes.lane_of w.key) c.removal-removal.ensures ∙ (c.requires ∙ sym (ap (λ s. s.register.number) c.self.view_is))

pub invariant_of-self : goal.invariant_of-self
invariant_of-self g c = (
  subst (λ (ds : List Deed). IsSeated g.L.KeyLanes.lane_of c.self.inside.register ds) (sym (ap (λ s. s.deeds) c.in-Err.ensures.refused)) c.self.invariant.0,
  said_kept g.L.KeyLanes.is_honest g.D.PageDevice.honest c.self.inside.register c.self.inside.lane c.self.inside.register c.remove.new.self
      refl
      (ap (λ (s : Serving g.row.D.Denot). g.D.PageDevice.honest s.store.device) c.in-Err.ensures.refused)
      c.self.invariant.1,
)

pub invariant_of-self-in-Err-enter : goal.invariant_of-self-in-Err-enter
invariant_of-self-in-Err-enter g c =
    let lane_of = g.L.KeyLanes.lane_of in
    let i = c.self.inside in
    let after = c.remove.new.self.deeds in (
      subst (λ (r : Registered). IsSeated lane_of r after) (sym c.in-Err-enter.ensures.refused.0) (seated_forgotten lane_of i.register i.lane.deeds c.self.invariant.0 c.args.key.now after c.in-Ok.ensures.removed.deeds),
      said_kept g.L.KeyLanes.is_honest g.D.PageDevice.honest c.self.inside.register c.self.inside.lane c.enter.new.self c.remove.new.self
          (ap (λ (r : Registered). r.number) c.in-Err-enter.ensures.refused.0)
          (removes_keep g.row.PAGE g.D.PageDevice.honest g.D.PageDevice.failures g.D.PageDevice.held c.args.key.now c.self.inside.lane c.remove.new.self c.in-Ok.ensures.removed)
          c.self.invariant.1,
    )

pub invariant_of-self-2 : goal.invariant_of-self-2
invariant_of-self-2 g c =
    let lane_of = g.L.KeyLanes.lane_of in
    let i = c.self.inside in
    let removal : Deed = record { key = c.args.key.now; act = Remove } in
    let enters : EntersIn lane_of i.register c.args.seat.now removal c.enter.new.self c.enter.new.seat = subst (λ (w : Deed). EntersIn lane_of i.register c.args.seat.now w c.enter.new.self c.enter.new.seat) c.removal-removal.ensures c.in-Ok-enter.ensures.entered in (
      seated_removed lane_of i.register i.lane.deeds c.self.invariant.0 removal c.remove.new.self.deeds c.args.seat.now c.enter.new.seat c.enter.new.self c.in-Ok.ensures.removed.deeds enters,
      said_kept g.L.KeyLanes.is_honest g.D.PageDevice.honest c.self.inside.register c.self.inside.lane c.enter.new.self c.remove.new.self
          enters.number
          (removes_keep g.row.PAGE g.D.PageDevice.honest g.D.PageDevice.failures g.D.PageDevice.held c.args.key.now c.self.inside.lane c.remove.new.self c.in-Ok.ensures.removed)
          c.self.invariant.1,
    )

-- ---- the bytes are no key's

pub returns-in-Err-clause-removed : goal.returns-in-Err-clause-removed
returns-in-Err-clause-removed g c = tt

pub returns-in-Err-clause-entered : goal.returns-in-Err-clause-entered
returns-in-Err-clause-entered g c = tt

pub returns-in-Err-clause-answered : goal.returns-in-Err-clause-answered
returns-in-Err-clause-answered g c = tt

pub returns-in-Err-clause-cause : goal.returns-in-Err-clause-cause
returns-in-Err-clause-cause g c =
    let why = c.in-Err.ensures in
    removal_by c.args.key.now c.in-Err.fault why.empty why.too_long why.memory c.in-Err.fault refl

pub returns-in-Err-clause-full : goal.returns-in-Err-clause-full
returns-in-Err-clause-full g c =
    let why = c.in-Err.ensures in
    book_unasked c.args.key.now c.in-Err.fault why.empty why.too_long why.memory (Err (refusals.Key c.in-Err.fault)) refl _

pub returns-in-Err-clause-refused : goal.returns-in-Err-clause-refused
returns-in-Err-clause-refused g c =
    let i = c.self.inside in
    let same : ◌≡◌ {A = Seated g.row.D.Denot} (record { serving = c.remove.new.self; register = i.register; words = i.words }) c.args.self.now = ap (λ (s : Serving g.row.D.Denot). record { serving = s; register = i.register; words = i.words }) c.in-Err.ensures.refused ∙ c.self.view_is in
    (same, refl)

-- ---- the book refused it

pub returns-in-Err-enter-clause-removed : goal.returns-in-Err-enter-clause-removed
returns-in-Err-enter-clause-removed g c = tt

pub returns-in-Err-enter-clause-entered : goal.returns-in-Err-enter-clause-entered
returns-in-Err-enter-clause-entered g c = tt

pub returns-in-Err-enter-clause-answered : goal.returns-in-Err-enter-clause-answered
returns-in-Err-enter-clause-answered g c = tt

pub returns-in-Err-enter-clause-cause : goal.returns-in-Err-enter-clause-cause
returns-in-Err-enter-clause-cause g c = is_key _ c.args.key.now c.in-Ok.ensures.empty c.in-Ok.ensures.too_long

pub returns-in-Err-enter-clause-full : goal.returns-in-Err-enter-clause-full
returns-in-Err-enter-clause-full g c =
    let fault = c.in-Err-enter.fault in
    let has = is_key _ c.args.key.now c.in-Ok.ensures.empty c.in-Ok.ensures.too_long in
    rw (← c.self.view_is) (full_exactly (Err (refusals.Book fault)) fault c.args.key.now _ refl c.in-Err-enter.ensures.full has)

pub returns-in-Err-enter-clause-refused : goal.returns-in-Err-enter-clause-refused
returns-in-Err-enter-clause-refused g c =
    let new : Seated g.row.D.Denot = record { serving = c.remove.new.self; register = c.enter.new.self; words = c.self.inside.words } in
    let why = c.in-Err-enter.ensures.refused in
    subst (λ (s : Seated g.row.D.Denot). IsForgotten g.D.PageDevice.held c.args.key.now s c.args.seat.now new c.enter.new.seat) c.self.view_is (c.in-Ok.ensures.removed, why.0, why.1)

-- ---- it was entered

pub returns-clause-removed : goal.returns-clause-removed
returns-clause-removed g c = subst (λ (s : Seated g.row.D.Denot). Removes g.D.PageDevice.held c.args.key.now s.serving c.remove.new.self) c.self.view_is c.in-Ok.ensures.removed

pub returns-clause-entered : goal.returns-clause-entered
returns-clause-entered g c =
    let lane_of = g.L.KeyLanes.lane_of in
    let removal : Deed = record { key = c.args.key.now; act = Remove } in
    let enters : EntersIn lane_of c.self.inside.register c.args.seat.now removal c.enter.new.self c.enter.new.seat = subst (λ (w : Deed). EntersIn lane_of c.self.inside.register c.args.seat.now w c.enter.new.self c.enter.new.seat) c.removal-removal.ensures c.in-Ok-enter.ensures.entered in
    subst (λ (s : Seated g.row.D.Denot). EntersIn lane_of s.register c.args.seat.now removal c.enter.new.self c.enter.new.seat) c.self.view_is enters

pub returns-clause-answered : goal.returns-clause-answered
returns-clause-answered g c = is_key _ c.args.key.now c.in-Ok.ensures.empty c.in-Ok.ensures.too_long

pub returns-clause-cause : goal.returns-clause-cause
returns-clause-cause g c = tt

pub returns-clause-full : goal.returns-clause-full
returns-clause-full g c = rw (← c.self.view_is) (removal_entered _ _ _ c.args.key.now _ c.in-Ok-enter.ensures.full)

pub returns-clause-refused : goal.returns-clause-refused
returns-clause-refused g c = tt

pub remove-requires : goal.remove-requires
remove-requires g c = lane_fits (param 0 g.row.D) (param 1 (number g.row.PAGE)) (param 2 g.row.L) (param 3 g.row.J) g.D.PageDevice g.L.KeyLanes g.J.BookName assumption

pub returns-in-Err-clause-words : goal.returns-in-Err-clause-words
returns-in-Err-clause-words g c = ap (λ s. s.words) c.self.view_is

pub returns-in-Err-enter-clause-words : goal.returns-in-Err-enter-clause-words
returns-in-Err-enter-clause-words g c = ap (λ s. s.words) c.self.view_is

pub returns-clause-words : goal.returns-clause-words
returns-clause-words g c = ap (λ s. s.words) c.self.view_is
