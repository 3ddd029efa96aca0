use Rattle.std.proofs.Common.{◌≡◌}
use Rattle.entry_pool.specs.Fresh.{AreFree, number_before}
use Rattle.entry_pool.proofs.pool.free_nodes.Given as goal

abbrev pub invariant-loop-at : goal.invariant-loop-at
invariant-loop-at l = AreFree l.at l.nodes.items × (l.before ≡ number_before l.at)
