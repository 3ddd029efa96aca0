use Rattle.certificate_finder.specs.Asking.{Asking, TellsHit}
use Rattle.certificate_finder.proofs.Listing.{lists_grow}
use Rattle.certificate_finder.proofs.asked.listed_hits.Goals as goal

pub loop-position-preserved : goal.loop-position-preserved
loop-position-preserved c = lists_grow c.args.steps.now Asking TellsHit c.loop-position.position c.loop-position.hits.items c.list_hit.new.hits.items c.item_at-step.result c.loop-position.invariant c.item_at-step.ensures c.in_ok-list_hit.ensures
