use Rattle.std.proofs.Common.{arith}
use Rattle.history_picture.specs.Drawings.{callers_at}
use Rattle.history_picture.proofs.Listing.{all_listed, listed_more}
use Rattle.history_picture.proofs.drawing.all_callers.Goals as goal

pub loop-position-preserved : goal.loop-position-preserved
loop-position-preserved c =
    listed_more (callers_at c.args.history.now) c.args.shown.now c.loop-position.position-index 0 c.loop-position.callers.items c.push_caller.new.callers.items c.loop-position-test.true
    c.loop-position.invariant c.in_ok-push_caller.ensures

pub returns : goal.returns
returns c =
    all_listed (callers_at c.args.history.now) c.args.shown.now c.loop-position.position-index c.loop-position.callers.items (omega (arith, c.loop-position-test.false)) c.loop-position.invariant
