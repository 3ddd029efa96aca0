use Rattle.std.proofs.Common.{◌≡◌, true, not, sym, ap, ◌∙◌, subst, rules, arith}
use Rattle.klog.specs.Log.{LogState, shape_of}
use Rattle.klog.specs.Names.{flushed_number}
use Rattle.klog.specs.Keeps.{IsLog}
use Rattle.klog.specs.Flush.{is_on_page, without_next}
use Rattle.klog.proofs.LiveLaws.{log_kept}
use Rattle.klog.proofs.log.KLog.lose_page.Goals as goal

pub overflow_cast-self-inside : goal.overflow_cast-self-inside
overflow_cast-self-inside g c =
    let on : c.self.inside.is_flushing ≡ true = ap (λ (n : LogState). n.is_flushing) c.self.view_is ∙ c.requires in
    omega (arith, c.self.invariant.0.flushing_left on, c.self.invariant.0.flushing_fits, c.self.invariant.0.few_pages)

pub invariant_of-self : goal.invariant_of-self
invariant_of-self g c =
    let k = c.args.self.now in
    let is : IsLog k = subst IsLog c.self.view_is c.self.invariant.0 in
    let kept : IsLog (without_next k) = log_kept k (λ e. not (is_on_page k (flushed_number k) k.done e)) is in
    let is_lost : record { shape = shape_of c.self.inside.layout; entries = c.drop_page.new.self.entries; first = c.self.inside.first; stored = c.self.inside.stored; is_flushing = c.self.inside.is_flushing; done = c.self.inside.done; flushing = c.self.inside.flushing.pages; filling = c.self.inside.filling.pages } ≡ without_next k = search rules in
    (subst IsLog (sym is_lost) kept, search rules, search rules, search rules, search rules)
