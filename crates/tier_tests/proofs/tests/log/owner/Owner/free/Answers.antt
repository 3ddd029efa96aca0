use Rattle.std.proofs.Common.{refl}
use Rattle.tier_tests.proofs.LogOwnerLaws.{kept}
use Rattle.tier_tests.proofs.tests.log.owner.Owner.free.Goals as goal

pub invariant_of-self : goal.invariant_of-self
invariant_of-self g c =
    let s = c.self.inside in
    let d = g.D.PageDevice in
    kept g.row.PAGE s.layout d.page_count d.honest d.held (record { device = s.device; log = s.log }) (record { device = s.device; log = c.free_oldest.new.self }) c.self.invariant
    c.free_oldest.ensures.shape refl refl (λ honest. c.free_oldest.ensures.spelled (d.held s.device))
