use Rattle.tier_tests.proofs.LogOwnerLaws.{kept}
use Rattle.tier_tests.proofs.tests.log.owner.Owner.look.Goals as goal

pub invariant_of-self : goal.invariant_of-self
invariant_of-self g c =
    let s = c.self.inside in
    let d = g.D.PageDevice in
    kept g.row.PAGE s.layout d.page_count d.honest d.held (record { device = s.device; log = s.log }) (record { device = c.look.new.device; log = c.look.new.self }) c.self.invariant
    c.look.ensures.shape c.look.ensures.reads.pages c.look.ensures.reads.honest c.look.ensures.spelled
