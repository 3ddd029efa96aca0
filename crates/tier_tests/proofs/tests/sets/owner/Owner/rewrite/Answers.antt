use Rattle.tier_tests.proofs.SetOwnerLaws.{kept}
use Rattle.tier_tests.proofs.tests.sets.owner.Owner.rewrite.Goals as goal

pub invariant_of-self : goal.invariant_of-self
invariant_of-self g c =
    let s = c.self.inside in
    let d = g.D.PageDevice in
    kept g.row.PAGE s.layout.sets d.page_count d.honest d.held (record { device = s.device; sets = s.sets }) (record { device = c.rewrite.new.device; sets = c.rewrite.new.self }) c.self.invariant
    c.rewrite.ensures.keeps.sizes c.rewrite.ensures.writes.pages c.rewrite.ensures.writes.honest c.rewrite.ensures.keeps.spelled
