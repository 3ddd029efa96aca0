use Rattle.tier_tests.proofs.SetOwnerLaws.{kept}
use Rattle.tier_tests.proofs.tests.sets.owner.Owner.locate.Goals as goal

pub invariant_of-self : goal.invariant_of-self
invariant_of-self g c =
    let s = c.self.inside in
    let d = g.D.PageDevice in
    kept g.row.PAGE s.layout.sets d.page_count d.honest d.held (record { device = s.device; sets = s.sets }) (record { device = c.locate.new.device; sets = s.sets }) c.self.invariant
    c.locate.ensures.keeps.sizes c.locate.ensures.reads.pages c.locate.ensures.reads.honest c.locate.ensures.keeps.spelled
