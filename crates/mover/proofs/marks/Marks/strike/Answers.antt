use Rattle.mover.proofs.public_laws.Listing.{mapped_step}
use Rattle.mover.specs.Flight.{mark_struck}
use Rattle.mover.proofs.marks.Marks.strike.Goals as goal

pub loop-mark-preserved : goal.loop-mark-preserved
loop-mark-preserved c =
    mapped_step (mark_struck c.args.hash) c.deref_mut-mark-items.result.now c.loop-mark.mark-items c.loop-mark.mark-index _ c.after_strike.result c.loop-mark.invariant c.loop-mark-test.true c.after_strike.ensures
