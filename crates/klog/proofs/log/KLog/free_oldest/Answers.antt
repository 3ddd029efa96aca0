use Rattle.std.proofs.Common.{[], sym, ap, subst, rules, ◌∙◌}
use Rattle.klog.specs.Log.{LogState}
use Rattle.klog.specs.Shown.{IsSpelledOn, live_on}
use Rattle.klog.specs.Keeps.{IsLog}
use Rattle.klog.specs.declared.oldest.Oldest.TheVariants as oldest
use Rattle.klog.specs.Moves.{TellsOldest}
use Rattle.klog.proofs.MoveLaws.{log_freed, live_on-freed, spelled_freed}
use Rattle.klog.proofs.log.KLog.free_oldest.Goals as goal

pub invariant_of-self : goal.invariant_of-self
invariant_of-self g c =
    let h = c.self.invariant in
    (log_freed _ (subst (λ (k : LogState). TellsOldest [] k oldest.Empty) (sym c.self.view_is) c.requires) h.0, h.1, h.2, h.3, h.4)

pub returns-clause-freed : goal.returns-clause-freed
returns-clause-freed g c = search rules

pub returns-clause-spelled : goal.returns-clause-spelled
returns-clause-spelled g c = λ held h.
    subst (IsSpelledOn g.row.PAGE held) (sym (returns-clause-freed g c)) (spelled_freed g.row.PAGE held c.args.self.now c.requires (subst IsLog c.self.view_is c.self.invariant.0) h)

pub returns-clause-shown : goal.returns-clause-shown
returns-clause-shown g c = λ held.
    ap (live_on held) (returns-clause-freed g c) ∙ live_on-freed held c.args.self.now c.requires (subst IsLog c.self.view_is c.self.invariant.0)
