use Rattle.tier_tests.proofs.LogOwnerLaws.{kept}
use Rattle.tier_tests.proofs.tests.log.owner.Owner.take.Goals as goal

pub invariant_of-self : goal.invariant_of-self
invariant_of-self g c =
    let s = c.self.inside in
    let d = g.D.PageDevice in
    kept g.row.PAGE s.layout d.page_count d.honest d.held (record { device = s.device; log = s.log }) (record { device = c.take_set.new.device; log = c.take_set.new.self }) c.self.invariant
    c.take_set.ensures.shape c.take_set.ensures.reads.pages c.take_set.ensures.reads.honest c.take_set.ensures.spelled
