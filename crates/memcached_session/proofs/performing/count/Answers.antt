-- A change of a number.
use Rattle.std.proofs.Common.{subst}
use Rattle.item_lane.specs.declared.counting.Delta.{Delta}
use Rattle.item_lane.specs.Choosing.{delta_plan}
use Rattle.item_lane.specs.Doing.{Does}
use Rattle.memcached_session.proofs.performing.count.Goals as goal

pub returns : goal.returns
returns g c =
    let d = g.D.PageDevice in
    let a = c.args in
    subst (λ (x : Delta). Does g.row.PAGE d.honest d.failures d.held a.request.key.now a.turn.command (delta_plan x) a.lane.now c.change_number.result c.change_number.new.lane) c.delta_of-delta.ensures c.change_number.ensures

pub change_number-requires : goal.change_number-requires
change_number-requires g c = assumption
