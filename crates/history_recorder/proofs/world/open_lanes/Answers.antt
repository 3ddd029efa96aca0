-- One lane more was opened.
use Rattle.std.proofs.Common.{◌+◌, [], ◌∷◌, ◌++◌, sym, subst, arith}
use Rattle.std.proofs.lemmas.List.{length-append}
use Rattle.history_recorder.specs.Opened.{AreOpenedOver}
use Rattle.history_recorder.proofs.WorldsOpened.{more_opened}
use Rattle.history_recorder.proofs.world.open_lanes.Goals as goal

pub loop-device-preserved : goal.loop-device-preserved
loop-device-preserved g c =
    let layout = c.args.layout.now in
    let honest = g.D.PageDevice.honest in
    let held = g.D.PageDevice.held in
    let number = c.loop-device.number in
    let more = more_opened honest held layout number c.loop-device.yielded c.loop-device.lanes.items c.in_ok-lane.lane c.in-Some.device c.loop-device.invariant.1 c.in_ok-lane.ensures.lane c.in_ok-lane.ensures.recorded in
    let count = c.loop-device.invariant.0 in
    let longer = length-append c.loop-device.yielded (c.in-Some.device ∷ []) in
    (omega (arith, count, longer), subst (AreOpenedOver honest held layout (number + 1) (c.loop-device.yielded ++ c.in-Some.device ∷ [])) (sym c.in_ok-push.ensures.items) more)
