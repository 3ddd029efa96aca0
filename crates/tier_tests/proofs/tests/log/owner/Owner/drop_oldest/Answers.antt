use Rattle.std.proofs.Common.{refl}
use Rattle.tier_tests.proofs.LogOwnerLaws.{kept}
use Rattle.tier_tests.proofs.tests.log.owner.Owner.drop_oldest.Goals as goal

pub invariant_of-self : goal.invariant_of-self
invariant_of-self g c =
    let s = c.self.inside in
    let d = g.D.PageDevice in
    kept g.row.PAGE s.layout d.page_count d.honest d.held (record { device = s.device; log = s.log }) (record { device = s.device; log = c.drop_entry.new.self }) c.self.invariant
    c.drop_entry.ensures.shape refl refl (λ honest. c.drop_entry.ensures.spelled (d.held s.device))
