use Rattle.std.proofs.Common.{◌≡◌, ◌≢◌, ◌+◌, ℕ, get_or}
use Rattle.entry_pool.specs.StrikeChains.{pool_of, marks_of, IsSound, KeepsSizes}
use Rattle.entry_pool.proofs.strike_nodes.StrikeNodes.clear.Given as goal

-- the others are as they were, and what the set lost is free
abbrev pub invariant-loop-self : goal.invariant-loop-self
invariant-loop-self l =
    IsSound (pool_of l.self) × KeepsSizes (pool_of l.initial.self) (pool_of l.self)
    × ((other : ℕ) → other ≢ l.set → marks_of (pool_of l.self) other ≡ marks_of (pool_of l.initial.self) other)
    × ((pool_of l.self).free_count + get_or (pool_of l.self).counts l.set 0 ≡ (pool_of l.initial.self).free_count + get_or (pool_of l.initial.self).counts l.set 0)

abbrev pub decreases-loop-self : goal.decreases-loop-self
decreases-loop-self l = get_or (pool_of l.self).counts l.set 0
