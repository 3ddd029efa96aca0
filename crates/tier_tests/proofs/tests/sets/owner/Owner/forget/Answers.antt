use Rattle.std.proofs.Common.{refl}
use Rattle.tier_tests.proofs.SetOwnerLaws.{kept}
use Rattle.tier_tests.proofs.tests.sets.owner.Owner.forget.Goals as goal

pub invariant_of-self : goal.invariant_of-self
invariant_of-self g c =
    let s = c.self.inside in
    let d = g.D.PageDevice in
    kept g.row.PAGE s.layout.sets d.page_count d.honest d.held (record { device = s.device; sets = s.sets }) (record { device = s.device; sets = c.forget.new.self }) c.self.invariant
    c.forget.ensures.sizes refl refl (λ honest. c.forget.ensures.spelled (d.held s.device))
