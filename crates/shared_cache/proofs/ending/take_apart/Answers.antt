use Rattle.std.proofs.Common.{rules, refl, arith, ◌≡◌, length}
use Rattle.shared_cache.specs.declared.lane_left.LaneLeft.{LaneLeft}
use Rattle.history_recorder.specs.Operations.{lane_of_key}
use Rattle.shared_cache.proofs.LanesOver.{numbered_more, over_taken}
use Rattle.shared_cache.proofs.ending.take_apart.Goals as goal

pub loop-lock-preserved : goal.loop-lock-preserved
loop-lock-preserved g c =
    let v = c.loop-lock.invariant in
    let number : c.len-lane.result ≡ length c.loop-lock.lanes.items = search rules in
    let left : LaneLeft = record { lane = c.len-lane.result; recorded = c.in_ok-parts.parts.calls } in
    record {
      over = rw (c.in-Ok.ensures.items, c.in-Ok-push.ensures.items) (over_taken g.D.PageDevice.honest (lane_of_key c.args.layout.now) c.loop-lock.lanes.items c.loop-lock.devices.items left c.in_ok-parts.parts.device c.len-lane.result number v.over c.in_ok-parts.ensures.over);
      numbered = rw c.in-Ok.ensures.items (numbered_more 0 c.len-lane.result c.loop-lock.lanes.items left refl (omega (arith, number)) v.numbered);
      devices = search rules;
      left = search rules;
    }
