use Rattle.certificate_finder.specs.Writing.{TellsWrite, Writing}
use Rattle.certificate_finder.proofs.Listing.{lists_grow}
use Rattle.certificate_finder.proofs.writes.listed_writes.Goals as goal

pub loop-position-preserved : goal.loop-position-preserved
loop-position-preserved c = lists_grow c.args.steps.now Writing TellsWrite c.loop-position.position c.loop-position.writes.items c.list_write.new.writes.items c.item_at-step.result c.loop-position.invariant c.item_at-step.ensures c.in_ok-list_write.ensures
