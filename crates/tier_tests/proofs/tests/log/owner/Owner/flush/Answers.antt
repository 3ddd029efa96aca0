use Rattle.tier_tests.proofs.LogOwnerLaws.{kept}
use Rattle.tier_tests.proofs.tests.log.owner.Owner.flush.Goals as goal

pub invariant_of-self : goal.invariant_of-self
invariant_of-self g c =
    let s = c.self.inside in
    let d = g.D.PageDevice in
    kept g.row.PAGE s.layout d.page_count d.honest d.held (record { device = s.device; log = s.log }) (record { device = c.flush_step.new.device; log = c.flush_step.new.self }) c.self.invariant
    c.flush_step.ensures.shape c.flush_step.ensures.writes.pages c.flush_step.ensures.writes.honest c.flush_step.ensures.spelled
