use Rattle.entry_pool.specs.StrikeChains.{AreSuccessors}
use Rattle.entry_pool.proofs.strike_nodes.successors.Given as goal

abbrev pub invariant-loop-at : goal.invariant-loop-at
invariant-loop-at l = AreSuccessors l.at l.links.items
