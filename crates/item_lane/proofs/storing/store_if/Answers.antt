-- A store that depends on the live item.
use Rattle.item_lane.specs.Cells.{kept_shown}
use Rattle.item_lane.specs.Choosing.{store_plan}
use Rattle.item_lane.specs.Plans.{plan_shown}
use Rattle.item_lane.proofs.DoneLaws.{done}
use Rattle.item_lane.proofs.storing.store_if.Goals as goal

pub returns : goal.returns
returns g c =
    let d = g.D.PageDevice in
    let a = c.args in
    let l = c.look-seen in
    done g.row.PAGE d.honest d.failures d.held a.key.now a.turn (store_plan a.condition (kept_shown a.item)) a.lane.now l.new.lane c.follow.new.lane l.result l.new.found c.bytes.result.now c.bytes.ensures.value l.ensures
    c.live_item-live.result c.live_item-live.ensures.live (plan_shown c.verdict-verdict.result) c.verdict-verdict.ensures c.follow.result c.follow.ensures

pub look-seen-requires : goal.look-seen-requires
look-seen-requires g c = assumption

pub follow-requires : goal.follow-requires
follow-requires g c = assumption
