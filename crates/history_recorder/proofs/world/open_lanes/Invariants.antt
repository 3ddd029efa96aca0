use Rattle.std.proofs.Common.{◌≡◌, length}
use Rattle.history_recorder.specs.Opened.{AreOpenedOver}
use Rattle.history_recorder.proofs.world.open_lanes.Given as goal

-- the lanes of the devices so far were opened
abbrev pub invariant-loop-device : goal.invariant-loop-device
invariant-loop-device g l = (l.number ≡ length l.yielded) × AreOpenedOver g.D.PageDevice.honest g.D.PageDevice.held l.layout l.number l.yielded l.lanes.items
