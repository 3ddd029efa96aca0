-- A fill by the next word, with help after one that is stored.
use Rattle.std.proofs.Common.{Ok, Err, Result, ◌≡◌, ◌↔◌, ◌∙◌, sym, ap, subst}
use Rattle.record_pages.specs.Expiry.{timed}
use Rattle.service_lane.specs.Leases.{HoldsLease}
use Rattle.service_lane.specs.Serving.{FillsStore}
use Rattle.service_lane.specs.Words.{next_word}
use Rattle.service_lane.specs.declared.filled.Filled.{Filled}
use Rattle.service_lane.specs.declared.filled.Filled.TheVariants.{Stored, Stale}
use Rattle.service_cache.specs.Seated.{Seated, put_of, FillRefusalLeaves}
use Rattle.service_cache.specs.declared.seat_fault.SeatPutFault.{SeatPutFault}
use Rattle.service_cache.proofs.Answering.{is_stale}
use Rattle.service_cache.proofs.Filling.{adds_last, refused_stays}
use Rattle.service_cache.proofs.Helping.{fills_and_helps}
use Rattle.service_cache.proofs.Refusing.{not_stale}
use Rattle.service_cache.proofs.lane.SeatedLane.fill_and_help.Goals as goal

pub fill-requires : goal.fill-requires
fill-requires g c = (assumption, c.requires ∙ sym (ap (λ (s : Seated g.row.D.Denot). s.register.number) c.draw-word.ensures.leaves))

-- ---- it was stored

pub returns-in-Ok-Stored-clause-stale : goal.returns-in-Ok-Stored-clause-stale
returns-in-Ok-Stored-clause-stale g c =
    let o = c.in-Ok-Stored in
    subst (λ (s : Seated g.row.D.Denot). (◌≡◌ {A = Result Filled SeatPutFault} (Ok (Stored o.pushed)) (Ok Stale)) ↔ (HoldsLease s.serving.slots c.args.key c.args.lease → ⊥)) c.draw-word.ensures.leaves
    (not_stale (Ok o.field-0) _ o.pushed _ (ap Ok o.field-0-is) o.ensures.stale (λ is. cc))

pub returns-in-Ok-Stored-clause-filled : goal.returns-in-Ok-Stored-clause-filled
returns-in-Ok-Stored-clause-filled g c =
    let d = g.D.PageDevice in
    let a = c.args in
    let o = c.in-Ok-Stored in
    let old = a.self.now in
    let between = c.fill.new.self.serving in
    let filled = rw o.field-0-is at o.ensures.filled in
    let fills : FillsStore g.row.PAGE d.held (record { key = a.key; value = timed a.value a.expires }) c.draw-word.result a.lease o.pushed old.serving between =
    subst (λ (s : Seated g.row.D.Denot). FillsStore g.row.PAGE d.held (record { key = a.key; value = timed a.value a.expires }) c.draw-word.result a.lease o.pushed s.serving between) c.draw-word.ensures.leaves filled in
    fills_and_helps g.row.PAGE d.honest d.failures d.held (g.P.EvictionPolicy.plan_of a.policy.now) a.key a.value a.expires (next_word old.words) c.draw-word.result c.draw-word.ensures.word o.pushed old.serving between c.help-helped.new.self.serving c.help-helped.result c.help-helped.ensures.helps a.lease fills

pub returns-in-Ok-Stored-clause-entered : goal.returns-in-Ok-Stored-clause-entered
returns-in-Ok-Stored-clause-entered g c =
    let a = c.args in
    let o = c.in-Ok-Stored in
    adds_last g.L.KeyLanes.lane_of (put_of a.key a.value a.expires) c.draw-word.new.self.register a.seat.now c.fill.new.self.register c.fill.new.seat (rw o.field-0-is at o.ensures.entered)

pub returns-in-Ok-Stored-clause-words : goal.returns-in-Ok-Stored-clause-words
returns-in-Ok-Stored-clause-words g c = c.help-helped.ensures.words ∙ (c.in-Ok-Stored.ensures.words ∙ ap (λ (s : Seated g.row.D.Denot). s.words) c.draw-word.ensures.leaves)

-- ---- it is stale

pub returns-in-Ok-Stale-clause-stale : goal.returns-in-Ok-Stale-clause-stale
returns-in-Ok-Stale-clause-stale g c =
    let o = c.in-Ok-Stale in
    let stale = rw o.field-0-is at o.ensures.stale in
    rw c.draw-word.ensures.leaves at (is_stale {F = SeatPutFault} _ stale)

pub returns-in-Ok-Stale-clause-filled : goal.returns-in-Ok-Stale-clause-filled
returns-in-Ok-Stale-clause-filled g c =
    let o = c.in-Ok-Stale in
    let stale = rw o.field-0-is at o.ensures.filled in
    rw c.draw-word.ensures.leaves at stale

pub returns-in-Ok-Stale-clause-entered : goal.returns-in-Ok-Stale-clause-entered
returns-in-Ok-Stale-clause-entered g c =
    let o = c.in-Ok-Stale in
    let stale = rw o.field-0-is at o.ensures.entered in
    stale.1

pub returns-in-Ok-Stale-clause-words : goal.returns-in-Ok-Stale-clause-words
returns-in-Ok-Stale-clause-words g c = c.in-Ok-Stale.ensures.words ∙ ap (λ (s : Seated g.row.D.Denot). s.words) c.draw-word.ensures.leaves

-- ---- it was refused

pub returns-in-Err-clause-stale : goal.returns-in-Err-clause-stale
returns-in-Err-clause-stale g c = rw c.draw-word.ensures.leaves at c.in-Err.ensures.stale

pub returns-in-Err-clause-words : goal.returns-in-Err-clause-words
returns-in-Err-clause-words g c = c.in-Err.ensures.words ∙ ap (λ (s : Seated g.row.D.Denot). s.words) c.draw-word.ensures.leaves

pub returns-in-Err-clause-refused : goal.returns-in-Err-clause-refused
returns-in-Err-clause-refused g c =
    let a = c.args in
    refused_stays g.row.PAGE g.D.PageDevice.held a.key a.value a.expires c.draw-word.result a.lease c.in-Err.fault c.draw-word.new.self a.seat.now c.fill.new.self c.fill.new.seat c.in-Err.ensures.refused

pub returns-in-Err-clause-leaves : goal.returns-in-Err-clause-leaves
returns-in-Err-clause-leaves g c =
    let held = g.D.PageDevice.held in
    let a = c.args in
    let fault = c.in-Err.fault in
    let by = subst (λ w. FillRefusalLeaves g.row.PAGE held a.key a.value a.expires w a.lease fault c.draw-word.new.self a.seat.now c.fill.new.self c.fill.new.seat) c.draw-word.ensures.word c.in-Err.ensures.refused in
    subst (λ (s : Seated g.row.D.Denot). FillRefusalLeaves g.row.PAGE held a.key a.value a.expires (next_word a.self.now.words) a.lease fault s a.seat.now c.fill.new.self c.fill.new.seat) c.draw-word.ensures.leaves by
