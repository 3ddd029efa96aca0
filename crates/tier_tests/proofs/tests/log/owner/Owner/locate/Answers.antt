use Rattle.std.proofs.Common.{ℕ, List, Option, refl, sym, subst}
use Rattle.klog.specs.Shown.{IsSpelledOn}
use Rattle.tier_tests.proofs.LogOwnerLaws.{kept}
use Rattle.tier_tests.proofs.tests.log.owner.Owner.locate.Goals as goal

pub invariant_of-self : goal.invariant_of-self
invariant_of-self g c =
    let s = c.self.inside in
    let d = g.D.PageDevice in
    kept g.row.PAGE s.layout d.page_count d.honest d.held (record { device = s.device; log = s.log }) (record { device = c.locate.new.device; log = s.log }) c.self.invariant
    refl c.locate.ensures.reads.pages c.locate.ensures.reads.honest
    (λ honest h. subst (λ (now : ℕ → Option (List ℕ)). IsSpelledOn g.row.PAGE now s.log) (sym (c.locate.ensures.reads.same honest)) h)
