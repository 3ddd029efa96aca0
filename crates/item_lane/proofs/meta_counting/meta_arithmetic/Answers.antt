-- A meta arithmetic.
use Rattle.item_lane.specs.Meta.{meta_delta_plan}
use Rattle.item_lane.specs.Plans.{plan_shown}
use Rattle.item_lane.proofs.DoneLaws.{done_and_given}
use Rattle.item_lane.proofs.WithinLaws.{within}
use Rattle.item_lane.proofs.meta_counting.meta_arithmetic.Goals as goal

pub returns : goal.returns
returns g c =
    let d = g.D.PageDevice in
    let a = c.args in
    let l = c.look-seen in
    done_and_given g.row.PAGE d.honest d.failures d.held a.key.now a.turn (meta_delta_plan a.request) a.lane.now l.new.lane c.follow-reply.new.lane l.result l.new.found c.bytes.result.now c.bytes.ensures.value l.ensures
    c.live_item-item.result c.live_item-item.ensures.live (plan_shown c.verdict-verdict.result) c.verdict-verdict.ensures c.follow-reply.result c.follow-reply.ensures

pub look-seen-requires : goal.look-seen-requires
look-seen-requires g c = assumption

pub verdict-verdict-requires-clause-short : goal.verdict-verdict-requires-clause-short
verdict-verdict-requires-clause-short g c = within c.live_item-item.result c.bytes.result.now c.look-seen.new.found c.live_item-item.ensures.within c.bytes.ensures.value c.bytes.ensures.range

pub follow-reply-requires : goal.follow-reply-requires
follow-reply-requires g c = assumption
