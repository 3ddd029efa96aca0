use Rattle.std.proofs.Common.{not, sym, ap, subst, rules, ◌∙◌}
use Rattle.klog_index.specs.Entries.{has_tag}
use Rattle.klog.specs.Shown.{IsSpelledOn, live_on}
use Rattle.klog.proofs.LiveLaws.{log_kept, spelled_kept, live_on-kept}
use Rattle.klog.proofs.log.KLog.strike.Goals as goal

pub invariant_of-self : goal.invariant_of-self
invariant_of-self g c =
    let kept = log_kept _ (λ e. not (has_tag c.args.placed.now.set c.args.placed.now.tag e)) c.self.invariant.0 in
    rw c.drop_tag.ensures (kept, c.self.invariant.1, c.self.invariant.2, c.self.invariant.3, c.self.invariant.4)

pub returns-clause-struck : goal.returns-clause-struck
returns-clause-struck g c = search rules

pub returns-clause-spelled : goal.returns-clause-spelled
returns-clause-spelled g c = λ held h.
    subst (IsSpelledOn g.row.PAGE held) (sym (returns-clause-struck g c)) (spelled_kept g.row.PAGE held c.args.self.now (λ e. not (has_tag c.args.placed.now.set c.args.placed.now.tag e)) h)

pub returns-clause-shown : goal.returns-clause-shown
returns-clause-shown g c = λ held.
    ap (live_on held) (returns-clause-struck g c) ∙ live_on-kept held c.args.self.now (λ e. not (has_tag c.args.placed.now.set c.args.placed.now.tag e))
