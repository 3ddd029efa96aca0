-- A step of upkeep adds no deed, so the lane stays in its seat.
use Rattle.std.proofs.Common.{refl, List, sym, ap, subst}
use Rattle.certificate_checker.specs.Deeds.{Deed}
use Rattle.service_cache.specs.Seated.{IsSeated}
use Rattle.service_cache.proofs.Honesty.{said_kept, upkeeps_deeds, upkeeps_keep}
use denote.Param.{param, number}
use Rattle.service_cache.proofs.Fitting.{lane_fits}
use Rattle.service_cache.proofs.lane.SeatedLane.upkeep_step.Goals as goal

pub invariant_of-self : goal.invariant_of-self
invariant_of-self g c =
    let d = g.D.PageDevice in
    let step = c.upkeep_step in (
      subst (λ (ds : List Deed). IsSeated g.L.KeyLanes.lane_of c.self.inside.register ds) (sym (upkeeps_deeds g.row.PAGE d.honest d.failures d.held (g.P.EvictionPolicy.plan_of c.args.policy.now) c.self.inside.lane step.result.did step.new.self step.ensures.upkept)) c.self.invariant.0,
      said_kept g.L.KeyLanes.is_honest g.D.PageDevice.honest c.self.inside.register c.self.inside.lane c.self.inside.register step.new.self
          refl
          (upkeeps_keep g.row.PAGE g.D.PageDevice.honest g.D.PageDevice.failures g.D.PageDevice.held (g.P.EvictionPolicy.plan_of c.args.policy.now) c.self.inside.lane step.result.did step.new.self step.ensures.upkept)
          c.self.invariant.1,
    )

pub returns-clause-upkept : goal.returns-clause-upkept
returns-clause-upkept g c = rw (← c.self.view_is) c.upkeep_step.ensures.upkept

pub returns-clause-asked : goal.returns-clause-asked
returns-clause-asked g c = c.upkeep_step.ensures.asked

pub returns-clause-unasked : goal.returns-clause-unasked
returns-clause-unasked g c = rw (← c.self.view_is) c.upkeep_step.ensures.unasked

pub returns-clause-due : goal.returns-clause-due
returns-clause-due g c = c.upkeep_step.ensures.due

pub returns-clause-register : goal.returns-clause-register
returns-clause-register g c = ap (λ s. s.register) c.self.view_is

pub upkeep_step-requires : goal.upkeep_step-requires
upkeep_step-requires g c = lane_fits (param 0 g.row.D) (param 1 (number g.row.PAGE)) (param 2 g.row.L) (param 3 g.row.J) g.D.PageDevice g.L.KeyLanes g.J.BookName assumption

pub returns-clause-words : goal.returns-clause-words
returns-clause-words g c = ap (λ s. s.words) c.self.view_is
