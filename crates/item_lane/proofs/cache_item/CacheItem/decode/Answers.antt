-- What was written of an item gives the item.
use Rattle.std.proofs.Common.{ap, ◌∙◌}
use Rattle.item_lane.specs.Cells.{decoded}
use Rattle.item_lane.proofs.CellLaws.{decoded_cell}
use Rattle.item_lane.proofs.cache_item.CacheItem.decode.Goals as goal

pub returns-clause-again : goal.returns-clause-again
returns-clause-again c kept is text = c.read.ensures.decoded ∙ ap decoded text ∙ decoded_cell kept is
