use Rattle.tier_tests.proofs.SetOwnerLaws.{kept}
use Rattle.tier_tests.proofs.tests.sets.owner.Owner.read.Goals as goal

pub invariant_of-self : goal.invariant_of-self
invariant_of-self g c =
    let s = c.self.inside in
    let d = g.D.PageDevice in
    kept g.row.PAGE s.layout.sets d.page_count d.honest d.held (record { device = s.device; sets = s.sets }) (record { device = c.read_set.new.device; sets = c.read_set.new.self }) c.self.invariant
    c.read_set.ensures.keeps.sizes c.read_set.ensures.reads.pages c.read_set.ensures.reads.honest c.read_set.ensures.keeps.spelled
