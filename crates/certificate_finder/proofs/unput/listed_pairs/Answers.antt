use Rattle.certificate_finder.specs.Putting.{Putting}
use Rattle.certificate_finder.specs.WarmSteps.{TellsPair}
use Rattle.certificate_finder.proofs.Listing.{grows_weaker, lists_grow}
use Rattle.certificate_finder.proofs.unput.listed_pairs.Goals as goal

pub loop-position-preserved : goal.loop-position-preserved
loop-position-preserved c = lists_grow c.args.steps.now Putting TellsPair c.loop-position.position c.loop-position.pairs.items c.list_pair.new.pairs.items c.item_at-step.result c.loop-position.invariant c.item_at-step.ensures (grows_weaker Putting TellsPair TellsPair 0 c.loop-position.position c.item_at-step.result c.loop-position.pairs.items c.list_pair.new.pairs.items (λ pair is. is) c.in_ok-list_pair.ensures)
