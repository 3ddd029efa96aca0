use Rattle.load.proofs.TopLaws.{grows-begun, grows-more}
use Rattle.load.proofs.cells.tops.Goals as goal

pub loop-top-init : goal.loop-top-init
loop-top-init c = rw c.new-tops.ensures.items grows-begun

pub loop-top-preserved : goal.loop-top-preserved
loop-top-preserved c = rw (c.in_ok-push.ensures.items, c.next_top-top.ensures) (grows-more _ _ c.loop-top.invariant c.loop-top-test.true)
