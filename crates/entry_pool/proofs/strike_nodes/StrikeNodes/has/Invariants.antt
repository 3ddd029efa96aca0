use Rattle.entry_pool.specs.StrikeChains.{pool_of}
use Rattle.entry_pool.proofs.StrikeSearch.{Searches}
use Rattle.entry_pool.proofs.strike_nodes.StrikeNodes.has.Given as goal

abbrev pub invariant-loop-left : goal.invariant-loop-left
invariant-loop-left l = Searches (pool_of l.self) l.set l.hash l.left l.at

abbrev pub decreases-loop-left : goal.decreases-loop-left
decreases-loop-left l = l.left
