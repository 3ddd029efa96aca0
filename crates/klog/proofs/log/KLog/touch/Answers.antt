use Rattle.std.proofs.Common.{sym, ap, subst, rules, ◌∙◌}
use Rattle.klog_index.specs.Entries.{is_in}
use Rattle.klog.specs.Shown.{IsSpelledOn, live_on}
use Rattle.klog.proofs.LiveLaws.{log_lowered, spelled_lowered, live_on-lowered}
use Rattle.klog.proofs.log.KLog.touch.Goals as goal

pub invariant_of-self : goal.invariant_of-self
invariant_of-self g c =
    let h = c.self.invariant in
    let kept = log_lowered _ (is_in c.args.entry.now.set c.args.entry.now.place) h.0 in
    rw c.lower_in.ensures (kept, h.1, h.2, h.3, h.4)

pub returns-clause-touched : goal.returns-clause-touched
returns-clause-touched g c = search rules

pub returns-clause-spelled : goal.returns-clause-spelled
returns-clause-spelled g c = λ held h.
    subst (IsSpelledOn g.row.PAGE held) (sym (returns-clause-touched g c)) (spelled_lowered g.row.PAGE held c.args.self.now (is_in c.args.entry.now.set c.args.entry.now.place) h)

pub returns-clause-shown : goal.returns-clause-shown
returns-clause-shown g c = λ held.
    ap (live_on held) (returns-clause-touched g c) ∙ live_on-lowered held c.args.self.now (is_in c.args.entry.now.set c.args.entry.now.place)
