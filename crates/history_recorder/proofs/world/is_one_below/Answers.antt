-- None of the devices has fewer pages.
use Rattle.std.proofs.Common.{arith}
use Rattle.history_recorder.proofs.Counted.{none_below}
use Rattle.history_recorder.proofs.world.is_one_below.Goals as goal

pub returns-clause-one : goal.returns-clause-one
returns-clause-one g c = (λ no. cc, λ any. absurd (none_below g.D.PageDevice.page_count c.args.needed c.args.devices.now c.loop-device.device-index (let past = c.loop-device-test.false in omega (arith, past)) c.loop-device.invariant any))
