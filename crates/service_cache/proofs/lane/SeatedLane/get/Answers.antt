-- A get: the register could not look, or the bytes are no key's, or the lane answered.
use Rattle.std.proofs.Common.{◌≡◌, List, refl, sym, ◌∙◌, ap, subst}
use Rattle.std.specs.Prelude.{IsTrue}
use Rattle.certificate_checker.specs.Deeds.{Deed}
use Rattle.mover.specs.Get.{answer_of}
use Rattle.service_lane.specs.Serving.{Serving, Gets}
use Rattle.service_cache.specs.Calls.{AnswersOf}
use Rattle.service_cache.specs.Seated.{Seated, IsSeated}
use Rattle.service_cache.proofs.Seating.{seated_look, seated_read, seated_live, seated_expiry}
use Rattle.service_cache.proofs.Refusing.{is_key}
use mathlib.Core.List.{IsPrefix}
use Rattle.deed_book.specs.Registers.{Registered}
use Rattle.service_cache.proofs.Answering.{get_by}
use Rattle.service_cache.proofs.Honesty.{expiry_as_said, gets_keep, hit_as_said, said_kept}
use denote.Param.{param, number}
use Rattle.service_cache.proofs.Fitting.{lane_fits}
use Rattle.service_cache.proofs.lane.SeatedLane.get.Goals as goal

pub invariant_of-self : goal.invariant_of-self
invariant_of-self g c = (
  subst (λ (r : Registered). IsSeated g.L.KeyLanes.lane_of r c.self.inside.lane.deeds) (sym c.in_default.ensures.refused.0) c.self.invariant.0,
  said_kept g.L.KeyLanes.is_honest g.D.PageDevice.honest c.self.inside.register c.self.inside.lane c.look.new.self c.self.inside.lane
      (ap (λ (r : Registered). r.number) c.in_default.ensures.refused.0)
      refl
      c.self.invariant.1,
)

pub invariant_of-self-in-Err : goal.invariant_of-self-in-Err
invariant_of-self-in-Err g c =
    let lane_of = g.L.KeyLanes.lane_of in
    let i = c.self.inside in
    let looked : IsSeated lane_of c.look.new.self i.lane.deeds = seated_look lane_of i.register i.lane.deeds c.self.invariant.0 c.args.seat.now c.look.new.seat c.look.new.self c.in-Ok.ensures.seen in (
      subst (λ (ds : List Deed). IsSeated lane_of c.look.new.self ds) (sym (ap (λ s. s.deeds) c.in-Err.ensures.refused)) looked,
      said_kept g.L.KeyLanes.is_honest g.D.PageDevice.honest c.self.inside.register c.self.inside.lane c.look.new.self c.get.new.self
          c.in-Ok.ensures.seen.number
          (ap (λ (s : Serving g.row.D.Denot). g.D.PageDevice.honest s.store.device) c.in-Err.ensures.refused)
          c.self.invariant.1,
    )

pub invariant_of-self-2 : goal.invariant_of-self-2
invariant_of-self-2 g c =
    let lane_of = g.L.KeyLanes.lane_of in
    let i = c.self.inside in
    let o = c.in-Ok-get in
    let looked : IsSeated lane_of c.look.new.self i.lane.deeds = seated_look lane_of i.register i.lane.deeds c.self.invariant.0 c.args.seat.now c.look.new.seat c.look.new.self c.in-Ok.ensures.seen in (
      seated_read lane_of c.look.new.self i.lane.deeds looked c.args.key.now c.args.moment (answer_of o.seen c.get.new.found) c.get.new.self.deeds o.ensures.gets.deeds,
      said_kept g.L.KeyLanes.is_honest g.D.PageDevice.honest c.self.inside.register c.self.inside.lane c.look.new.self c.get.new.self
          c.in-Ok.ensures.seen.number
          (gets_keep g.row.PAGE g.D.PageDevice.honest g.D.PageDevice.failures g.D.PageDevice.held c.args.key.now c.args.moment (answer_of o.seen c.get.new.found) i.lane c.get.new.self o.ensures.gets)
          c.self.invariant.1,
    )

-- ---- the register could not look

pub returns-in_default-clause-gets : goal.returns-in_default-clause-gets
returns-in_default-clause-gets g c = tt

pub returns-in_default-clause-untouched : goal.returns-in_default-clause-untouched
returns-in_default-clause-untouched g c = tt

pub returns-in_default-clause-answered : goal.returns-in_default-clause-answered
returns-in_default-clause-answered g c = tt

pub returns-in_default-clause-answers : goal.returns-in_default-clause-answers
returns-in_default-clause-answers g c = tt

pub returns-in_default-clause-rest : goal.returns-in_default-clause-rest
returns-in_default-clause-rest g c = (ap (λ (r : Registered). r.number) c.in_default.ensures.refused.0 ∙ ap (λ s. s.register.number) c.self.view_is, ap (λ s. s.words) c.self.view_is)

pub returns-in_default-clause-cause : goal.returns-in_default-clause-cause
returns-in_default-clause-cause g c = c.foreign.ensures.get

pub returns-in_default-clause-refused : goal.returns-in_default-clause-refused
returns-in_default-clause-refused g c = (ap (λ s. s.serving) c.self.view_is, refl)

-- ---- the bytes are no key's

pub returns-in-Err-clause-gets : goal.returns-in-Err-clause-gets
returns-in-Err-clause-gets g c = tt

pub returns-in-Err-clause-untouched : goal.returns-in-Err-clause-untouched
returns-in-Err-clause-untouched g c = tt

pub returns-in-Err-clause-answered : goal.returns-in-Err-clause-answered
returns-in-Err-clause-answered g c = tt

pub returns-in-Err-clause-seen : goal.returns-in-Err-clause-seen
returns-in-Err-clause-seen g c = subst (λ (seen : List Deed). IsPrefix c.args.seat.now seen) (sym c.in-Ok.ensures.seen.both) c.in-Ok.ensures.seen.seen

pub returns-in-Err-clause-answers : goal.returns-in-Err-clause-answers
returns-in-Err-clause-answers g c = tt

pub returns-in-Err-clause-rest : goal.returns-in-Err-clause-rest
returns-in-Err-clause-rest g c = (c.in-Ok.ensures.seen.number ∙ ap (λ s. s.register.number) c.self.view_is, ap (λ s. s.words) c.self.view_is)

pub returns-in-Err-clause-cause : goal.returns-in-Err-clause-cause
returns-in-Err-clause-cause g c =
    let why = c.in-Err.ensures in
    get_by c.args.key.now c.in-Err.fault why.empty why.too_long why.memory c.in-Err.fault refl

pub returns-in-Err-clause-refused : goal.returns-in-Err-clause-refused
returns-in-Err-clause-refused g c =
    let why = c.in-Err.ensures in
    (why.refused ∙ ap (λ s. s.serving) c.self.view_is, why.refused_found)

-- ---- the lane answered

pub returns-clause-answers : goal.returns-clause-answers
returns-clause-answers g c =
    let lane_of = g.L.KeyLanes.lane_of in
    let said = g.L.KeyLanes.is_honest in
    let honest = g.D.PageDevice.honest in
    let a = c.args in
    let i = c.self.inside in
    let o = c.in-Ok-get in
    let seat = c.look.new.seat in
    let found = c.get.new.found in
    let answer = answer_of o.seen found in
    let is = honest i.lane.store.device in
    let ours : lane_of a.key.now ≡ i.register.number = c.requires ∙ sym (ap (λ s. s.register.number) c.self.view_is) in
    let live = seated_live lane_of i.register i.lane.deeds c.self.invariant.0 (IsTrue is) a.seat.now seat c.look.new.self a.key.now a.moment answer c.in-Ok.ensures.seen ours o.ensures.gets.live in
    let expires = seated_expiry lane_of i.register i.lane.deeds c.self.invariant.0 (IsTrue is) a.seat.now seat c.look.new.self a.key.now found o.seen c.in-Ok.ensures.seen ours o.ensures.expires in
    let answers : AnswersOf (IsTrue is) said lane_of seat a.key.now a.moment found o.seen =
    record {
      live = live;
      expires = expires;
      hit = hit_as_said said lane_of a.key.now i.register.number is ours c.self.invariant.1 seat a.moment answer live;
      told = expiry_as_said said lane_of a.key.now i.register.number is ours c.self.invariant.1 seat found o.seen expires;
    } in
    subst (λ (s : Seated g.row.D.Denot). AnswersOf (IsTrue (honest s.serving.store.device)) said lane_of seat a.key.now a.moment found o.seen) c.self.view_is answers

pub returns-clause-gets : goal.returns-clause-gets
returns-clause-gets g c =
    let d = g.D.PageDevice in
    subst (λ (s : Seated g.row.D.Denot). Gets g.row.PAGE d.honest d.failures d.held c.args.key.now c.args.moment (answer_of c.in-Ok-get.seen c.get.new.found) s.serving c.get.new.self) c.self.view_is c.in-Ok-get.ensures.gets

pub returns-clause-untouched : goal.returns-clause-untouched
returns-clause-untouched g c = c.in-Ok-get.ensures.untouched

pub returns-clause-seen : goal.returns-clause-seen
returns-clause-seen g c = subst (λ (seen : List Deed). IsPrefix c.args.seat.now seen) (sym c.in-Ok.ensures.seen.both) c.in-Ok.ensures.seen.seen

pub returns-clause-rest : goal.returns-clause-rest
returns-clause-rest g c = (c.in-Ok.ensures.seen.number ∙ ap (λ s. s.register.number) c.self.view_is, ap (λ s. s.words) c.self.view_is)

pub returns-clause-answered : goal.returns-clause-answered
returns-clause-answered g c = is_key c.in-Ok-get.seen c.args.key.now c.in-Ok-get.ensures.empty c.in-Ok-get.ensures.too_long

pub returns-clause-cause : goal.returns-clause-cause
returns-clause-cause g c = tt

pub returns-clause-refused : goal.returns-clause-refused
returns-clause-refused g c = tt

pub get-requires : goal.get-requires
get-requires g c = lane_fits (param 0 g.row.D) (param 1 (number g.row.PAGE)) (param 2 g.row.L) (param 3 g.row.J) g.D.PageDevice g.L.KeyLanes g.J.BookName assumption
