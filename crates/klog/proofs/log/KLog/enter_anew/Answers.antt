use Rattle.std.proofs.Common.{Bool, true, List, ap, ◌∙◌}
use Rattle.record_pages.specs.Expiry.{timed}
use Rattle.record_pages.specs.Recs.{Rec}
use Rattle.klog_index.specs.declared.entry.Entry.{Entry}
use Rattle.klog.specs.Log.{LogState}
use Rattle.klog.specs.Shown.{live_on}
use Rattle.klog.specs.Append.{entering, live_entered}
use Rattle.klog.specs.Moves.{live_without_entry}
use Rattle.klog.proofs.log.KLog.enter_anew.Goals as goal

pub returns-then-enter-clause-spelled : goal.returns-then-enter-clause-spelled
returns-then-enter-clause-spelled g c = λ held h. c.enter.ensures.spelled held (c.drop_entry.ensures.spelled held h)

pub returns-then-enter-clause-shown : goal.returns-then-enter-clause-shown
returns-then-enter-clause-shown g c = λ held.
    let k = c.drop_entry.new.self in
    let r = entering c.args.found.key.now (timed c.args.found.value.now c.args.found.expires) in
    c.enter.ensures.shown held
    ∙ ap (λ (b : Bool). live_entered g.row.PAGE k r b (live_on held k)) c.if-enter.true
    ∙ ap (λ (live : List (Entry × Rec)). live_entered g.row.PAGE k r true live) (c.drop_entry.ensures.shown held)
    ∙ ap (λ (k : LogState). live_entered g.row.PAGE k r true (live_without_entry c.args.entry.now (live_on held c.args.self.now))) c.drop_entry.ensures.dropped

pub returns-else-enter-clause-spelled : goal.returns-else-enter-clause-spelled
returns-else-enter-clause-spelled g c = λ held h. c.enter.ensures.spelled held (c.drop_entry.ensures.spelled held h)
