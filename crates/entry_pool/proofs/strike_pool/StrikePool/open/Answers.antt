use Rattle.entry_pool.specs.StrikeChains.{pool_of}
use Rattle.entry_pool.proofs.StrikeSets.{opened-struck, opened-none}
use Rattle.entry_pool.proofs.strike_pool.StrikePool.open.Goals as goal

pub invariant_of-result : goal.invariant_of-result
invariant_of-result c = opened-struck (pool_of c.in_ok-nodes.nodes) c.args.sets c.args.places c.requires.sets c.in_ok-nodes.ensures

pub returns : goal.returns
returns c = opened-none (pool_of c.in_ok-nodes.nodes) c.args.sets c.args.places c.requires.sets c.in_ok-nodes.ensures
