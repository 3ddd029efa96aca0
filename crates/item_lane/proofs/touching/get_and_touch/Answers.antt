-- A touch that gives the item.
use Rattle.item_lane.specs.Choosing.{touch_plan}
use Rattle.item_lane.specs.Plans.{plan_shown}
use Rattle.item_lane.proofs.DoneLaws.{done_and_given}
use Rattle.item_lane.proofs.WithinLaws.{within}
use Rattle.item_lane.proofs.touching.get_and_touch.Goals as goal

pub returns-clause-does : goal.returns-clause-does
returns-clause-does g c =
    let d = g.D.PageDevice in
    let a = c.args in
    let l = c.look-seen in
    done_and_given g.row.PAGE d.honest d.failures d.held a.key.now a.turn (touch_plan a.expires) a.lane.now l.new.lane c.follow-reply.new.lane l.result l.new.found c.bytes.result.now c.bytes.ensures.value l.ensures
    c.live_item-item.result c.live_item-item.ensures.live (plan_shown c.touch_verdict.result) c.touch_verdict.ensures c.follow-reply.result c.follow-reply.ensures

pub returns-clause-within : goal.returns-clause-within
returns-clause-within g c = within c.live_item-item.result c.bytes.result.now c.look-seen.new.found c.live_item-item.ensures.within c.bytes.ensures.value c.bytes.ensures.range

pub look-seen-requires : goal.look-seen-requires
look-seen-requires g c = assumption

pub follow-reply-requires : goal.follow-reply-requires
follow-reply-requires g c = assumption
