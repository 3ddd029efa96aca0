-- One put more.
use Rattle.std.proofs.Common.{[], ◌∷◌, length, ap, arith, length-append}
use Rattle.recorded_tests.proofs.Rising.{one_more}
use Rattle.recorded_tests.proofs.lanes.layouts.lane_of.Goals as goal

pub loop-put-preserved : goal.loop-put-preserved
loop-put-preserved c =
    let lane = c.loop-put.lane in
    let done = c.in_ok-done_of.field-0 in
    let less = c.if-put-last.false in
    let pushed = ap length c.in_ok-push.ensures.ok in
    let one = length-append lane (done ∷ []) in
    let before = c.loop-put.invariant.1 in
    (rw c.in_ok-push.ensures.ok (one_more lane done c.loop-put.last _ c.loop-put.invariant.0 c.in_ok-done_of.ensures (omega (arith, less))), omega (arith, pushed, one, before))
