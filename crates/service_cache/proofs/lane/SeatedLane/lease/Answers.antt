use Rattle.std.proofs.Common.{refl, List, sym, ◌∙◌, ap, subst}
use Rattle.certificate_checker.specs.Deeds.{Deed}
use Rattle.service_lane.specs.Leases.{lease_for}
use Rattle.service_lane.specs.Serving.{Serving}
use Rattle.service_cache.specs.Seated.{Seated, IsSeated}
use Rattle.deed_book.specs.Registers.{Registered}
use Rattle.rand_pcg.specs.Lcg.{Lcg}
use Rattle.service_cache.proofs.Honesty.{said_kept}
use denote.Param.{param, number}
use Rattle.service_cache.proofs.Fitting.{lane_fits}
use Rattle.service_cache.proofs.lane.SeatedLane.lease.Goals as goal

abbrev seated : {D : Type 0} → Serving D → Registered → Lcg → Seated D
seated serving register words = record { serving = serving; register = register; words = words }

pub invariant_of-self : goal.invariant_of-self
invariant_of-self g c = (
  subst (λ (ds : List Deed). IsSeated g.L.KeyLanes.lane_of c.self.inside.register ds) (sym (ap (λ s. s.deeds) c.lease.ensures.leaves)) c.self.invariant.0,
  said_kept g.L.KeyLanes.is_honest g.D.PageDevice.honest c.self.inside.register c.self.inside.lane c.self.inside.register c.lease.new.self
      refl
      (ap (λ (s : Serving g.row.D.Denot). g.D.PageDevice.honest s.store.device) c.lease.ensures.leaves)
      c.self.invariant.1,
)

pub returns-clause-lease : goal.returns-clause-lease
returns-clause-lease g c = c.lease.ensures.lease ∙ ap (λ s. lease_for s.serving.slots c.args.key.now) c.self.view_is

pub returns-clause-leaves : goal.returns-clause-leaves
returns-clause-leaves g c =
    let leaves = ap (λ (s : Serving g.row.D.Denot). seated s c.self.inside.register c.self.inside.words) c.lease.ensures.leaves in
    rw (← c.self.view_is) leaves

pub lease-requires : goal.lease-requires
lease-requires g c = lane_fits (param 0 g.row.D) (param 1 (number g.row.PAGE)) (param 2 g.row.L) (param 3 g.row.J) g.D.PageDevice g.L.KeyLanes g.J.BookName assumption
