-- The window of the calls is kept, and of it what is not settled.
use Rattle.judge_run.proofs.KeepLaws.{kept_in_turn}
use Rattle.judge_run.proofs.forgetting.forget.Goals as goal

pub returns-in-Ok-keep-2-clause-kept : goal.returns-in-Ok-keep-2-clause-kept
returns-in-Ok-keep-2-clause-kept g c =
    let text = c.args.text.now in
    let first = c.keep.new.self in
    let kept = c.keep-2.new.self in
    kept_in_turn c.args.bound text.history first.history kept.history text.lines.items first.lines.items kept.lines.items c.in-Ok.stay.items c.deref.result.now c.in-Ok-unsettled.left.items c.deref-2.result.now c.deref.ensures.value c.deref-2.ensures.value c.in-Ok.ensures c.in-Ok-keep.ensures.history c.in-Ok-keep.ensures.lines c.in-Ok-unsettled.ensures c.in-Ok-keep-2.ensures.history c.in-Ok-keep-2.ensures.lines
