use Rattle.tier_tests.proofs.SetOwnerLaws.{kept}
use Rattle.tier_tests.proofs.tests.sets.owner.Owner.look.Goals as goal

pub invariant_of-self : goal.invariant_of-self
invariant_of-self g c =
    let s = c.self.inside in
    let d = g.D.PageDevice in
    kept g.row.PAGE s.layout.sets d.page_count d.honest d.held (record { device = s.device; sets = s.sets }) (record { device = c.look.new.device; sets = c.look.new.self }) c.self.invariant
    c.look.ensures.keeps.sizes c.look.ensures.reads.pages c.look.ensures.reads.honest c.look.ensures.keeps.spelled
