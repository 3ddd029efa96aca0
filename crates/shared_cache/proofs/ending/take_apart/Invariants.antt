use Rattle.std.proofs.Common.{◌≡◌, ◌+◌, length}
use Rattle.shared_cache.specs.Settled.{AreNumbered, recorded_in}
use Rattle.history_recorder.specs.Operations.{lane_of_key}
use Rattle.shared_cache.specs.Over.{AreOver}
use Rattle.shared_cache.proofs.ending.take_apart.Given as goal

abbrev pub invariant-loop-lock : goal.invariant-loop-lock
invariant-loop-lock g l = record {
  over : AreOver g.D.PageDevice.honest (lane_of_key l.layout) 0 (recorded_in l.lanes.items) l.devices.items;
  numbered : AreNumbered 0 l.lanes.items;
  devices : length l.devices.items ≡ length l.lanes.items;
  left : length l.lanes.items + length l.left.items ≡ length l.fn.books.items;
}

abbrev pub decreases-loop-lock : goal.decreases-loop-lock
decreases-loop-lock g l = length l.left.items
