-- Help adds no deed, so the lane stays in its seat.
use Rattle.std.proofs.Common.{refl, List, sym, ap, subst}
use Rattle.certificate_checker.specs.Deeds.{Deed}
use Rattle.service_cache.specs.Seated.{IsSeated}
use Rattle.service_cache.proofs.Honesty.{helps_keep, said_kept}
use denote.Param.{param, number}
use Rattle.service_cache.proofs.Fitting.{lane_fits}
use Rattle.service_cache.proofs.lane.SeatedLane.help.Goals as goal

pub invariant_of-self : goal.invariant_of-self
invariant_of-self g c = (
  subst (λ (ds : List Deed). IsSeated g.L.KeyLanes.lane_of c.self.inside.register ds) (sym (ap (λ s. s.deeds) c.help.ensures.rest)) c.self.invariant.0,
  said_kept g.L.KeyLanes.is_honest g.D.PageDevice.honest c.self.inside.register c.self.inside.lane c.self.inside.register c.help.new.self
      refl
      (helps_keep g.row.PAGE g.D.PageDevice.honest g.D.PageDevice.failures g.D.PageDevice.held (g.P.EvictionPolicy.plan_of c.args.policy.now) c.self.inside.lane c.help.result c.help.new.self c.help.ensures)
      c.self.invariant.1,
)

pub returns-clause-helps : goal.returns-clause-helps
returns-clause-helps g c = rw (← c.self.view_is) c.help.ensures

pub returns-clause-register : goal.returns-clause-register
returns-clause-register g c = ap (λ s. s.register) c.self.view_is

pub help-requires : goal.help-requires
help-requires g c = lane_fits (param 0 g.row.D) (param 1 (number g.row.PAGE)) (param 2 g.row.L) (param 3 g.row.J) g.D.PageDevice g.L.KeyLanes g.J.BookName assumption

pub returns-clause-words : goal.returns-clause-words
returns-clause-words g c = ap (λ s. s.words) c.self.view_is
