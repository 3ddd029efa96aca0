use Rattle.history_picture.proofs.PictureLaws.{next_more}
use Rattle.history_picture.proofs.drawing.Drawing.next.Goals as goal

pub loop-position-preserved : goal.loop-position-preserved
loop-position-preserved c =
    next_more c.args.self.now c.args.history.now c.args.caller c.args.start c.args.shown.now c.loop-position.position-index c.loop-position.next c.next_at.result c.min-next.result
    c.loop-position-test.true c.loop-position.invariant c.next_at.ensures c.min-next.ensures
