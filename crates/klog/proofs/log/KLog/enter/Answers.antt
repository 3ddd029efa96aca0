use Rattle.std.proofs.Common.{sym, ap, subst, ◌∙◌}
use Rattle.record_pages.specs.Lent.{record_shown}
use Rattle.klog.specs.Shown.{IsSpelledOn, live_on}
use Rattle.klog.specs.Append.{sealed}
use Rattle.klog.proofs.AppendLaws.{live_anew}
use Rattle.klog.proofs.log.KLog.enter.Goals as goal

pub returns-clause-spelled : goal.returns-clause-spelled
returns-clause-spelled g c = λ held h.
    c.put-2.ensures.spelled held (c.seal.ensures.spelled held (subst (IsSpelledOn g.row.PAGE held) (sym c.if-put.ensures.same) h))

pub returns-clause-shown : goal.returns-clause-shown
returns-clause-shown g c = λ held.
    let same = c.if-put.ensures.same in
    live_anew g.row.PAGE held c.args.self.now c.seal.new.self c.put-2.new.self (record_shown c.args.added) c.put-2.result
    (sym c.put.ensures.can ∙ c.if-put.false) (c.seal.ensures.sealed ∙ ap sealed same) (c.seal.ensures.shown held ∙ ap (live_on held) same)
    (c.put-2.ensures.shown held) c.put-2.ensures.same
