-- A change of a number.
use Rattle.item_lane.specs.Choosing.{delta_plan}
use Rattle.item_lane.specs.Plans.{plan_shown}
use Rattle.item_lane.proofs.DoneLaws.{done}
use Rattle.item_lane.proofs.WithinLaws.{within}
use Rattle.item_lane.proofs.counting.change_number.Goals as goal

pub returns : goal.returns
returns g c =
    let d = g.D.PageDevice in
    let a = c.args in
    let l = c.look-seen in
    done g.row.PAGE d.honest d.failures d.held a.key.now a.turn (delta_plan a.delta) a.lane.now l.new.lane c.follow.new.lane l.result l.new.found c.bytes.result.now c.bytes.ensures.value l.ensures
    c.live_item-live.result c.live_item-live.ensures.live (plan_shown c.verdict-verdict.result) c.verdict-verdict.ensures c.follow.result c.follow.ensures

pub look-seen-requires : goal.look-seen-requires
look-seen-requires g c = assumption

pub verdict-verdict-requires-clause-short : goal.verdict-verdict-requires-clause-short
verdict-verdict-requires-clause-short g c = within c.live_item-live.result c.bytes.result.now c.look-seen.new.found c.live_item-live.ensures.within c.bytes.ensures.value c.bytes.ensures.range

pub follow-requires : goal.follow-requires
follow-requires g c = assumption
