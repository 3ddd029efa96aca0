use Rattle.record_pages.proofs.FrontLaws.{zeros_more}
use Rattle.record_pages.proofs.front.is_zero.Goals as goal

pub loop-byte-preserved : goal.loop-byte-preserved
loop-byte-preserved c = zeros_more c.args.bytes.now c.loop-byte.byte-index c.loop-byte.bits c.loop-byte-test.true c.loop-byte.invariant
