-- A lane is asked for a key.
use Rattle.item_lane.proofs.WithinLaws.{within}
use Rattle.item_lane.proofs.look.get.Goals as goal

pub look-seen-requires : goal.look-seen-requires
look-seen-requires g c = assumption

pub returns-clause-within : goal.returns-clause-within
returns-clause-within g c = within c.live_item.result c.bytes.result.now c.look-seen.new.found c.live_item.ensures.within c.bytes.ensures.value c.bytes.ensures.range
