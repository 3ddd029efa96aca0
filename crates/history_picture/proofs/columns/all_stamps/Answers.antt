use Rattle.std.proofs.Common.{arith}
use Rattle.history_picture.specs.Scale.{stamps_at}
use Rattle.history_picture.proofs.Listing.{all_listed, listed_more}
use Rattle.history_picture.proofs.columns.all_stamps.Goals as goal

pub loop-position-preserved : goal.loop-position-preserved
loop-position-preserved c =
    listed_more (stamps_at c.args.history.now) c.args.shown.now c.loop-position.position-index 0 c.loop-position.stamps.items c.push_stamps.new.stamps.items c.loop-position-test.true
    c.loop-position.invariant c.in_ok-push_stamps.ensures

pub returns : goal.returns
returns c =
    all_listed (stamps_at c.args.history.now) c.args.shown.now c.loop-position.position-index c.loop-position.stamps.items (omega (arith, c.loop-position-test.false)) c.loop-position.invariant
