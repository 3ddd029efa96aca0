use Rattle.std.proofs.Common.{◌<◌, length, not, sym, ap, subst, rules, ◌∙◌}
use Rattle.klog_index.specs.Entries.{is_in}
use Rattle.klog.specs.Log.{LogState}
use Rattle.klog.specs.Keeps.{IsLog}
use Rattle.klog.specs.Shown.{IsSpelledOn, live_on}
use Rattle.klog.proofs.LiveLaws.{log_kept, spelled_kept, live_on-kept}
use Rattle.klog.proofs.MoveLaws.{fewer_without}
use Rattle.klog.proofs.log.KLog.drop_entry.Goals as goal

pub invariant_of-self : goal.invariant_of-self
invariant_of-self g c =
    let h = c.self.invariant in
    let kept = log_kept _ (λ e. not (is_in c.args.entry.now.set c.args.entry.now.place e)) h.0 in
    rw c.drop_in.ensures (kept, h.1, h.2, h.3, h.4)

pub returns-clause-dropped : goal.returns-clause-dropped
returns-clause-dropped g c = search rules

pub returns-clause-fewer : goal.returns-clause-fewer
returns-clause-fewer g c = λ listed.
    subst (λ (k : LogState). length k.entries < k.shape.limit) (sym (returns-clause-dropped g c)) (fewer_without c.args.self.now c.args.entry.now (subst IsLog c.self.view_is c.self.invariant.0) listed)

pub returns-clause-spelled : goal.returns-clause-spelled
returns-clause-spelled g c = λ held h.
    subst (IsSpelledOn g.row.PAGE held) (sym (returns-clause-dropped g c)) (spelled_kept g.row.PAGE held c.args.self.now (λ e. not (is_in c.args.entry.now.set c.args.entry.now.place e)) h)

pub returns-clause-shown : goal.returns-clause-shown
returns-clause-shown g c = λ held.
    ap (live_on held) (returns-clause-dropped g c) ∙ live_on-kept held c.args.self.now (λ e. not (is_in c.args.entry.now.set c.args.entry.now.place e))
