use Rattle.history_picture.proofs.Choosing.{taken_more}
use Rattle.history_picture.proofs.shown.marked.Goals as goal

pub loop-mark-preserved : goal.loop-mark-preserved
loop-mark-preserved c =
    taken_more c.args.history.now c.args.marks.now c.loop-mark.shown.items c.take_up.new.shown.items c.loop-mark.mark-index c.loop-mark-test.true c.loop-mark.invariant c.in_ok-take_up.ensures
