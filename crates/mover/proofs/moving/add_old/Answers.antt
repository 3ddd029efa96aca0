use Rattle.std.proofs.Common.{◌≡◌, ap, ◌∙◌}
use Rattle.record_pages.specs.Recs.{size}
use Rattle.mover.specs.Job.{old_item}
use Rattle.mover.proofs.Committing.{added_more}
use Rattle.mover.proofs.moving.add_old.Goals as goal

pub loop-number-preserved : goal.loop-number-preserved
loop-number-preserved c =
    let x = c.at-record.result.now in
    let sized : c.size.result ≡ size x.stored = c.size.ensures ∙ ap size c.lent.ensures.shown in
    added_more old_item c.args.visible.now c.loop-number.number x _ c.args.items.now c.loop-number.items c.push.new.self c.at-record.ensures c.loop-number.invariant c.in_ok-push.ensures.ok
    (λ i. record (old_item x) { size = sized i })
