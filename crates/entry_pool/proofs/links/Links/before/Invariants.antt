use Rattle.std.proofs.Common.{◌≡◌, ◌∷◌, length}
use Rattle.entry_pool.specs.Chains.{none, IsIn, after_of}
use Rattle.entry_pool.specs.Linked.{chains_of}
use Rattle.entry_pool.specs.Pool.{bucket_of}
use Rattle.entry_pool.proofs.links.Links.before.Given as goal

-- the node is still ahead
abbrev pub invariant-loop-next : goal.invariant-loop-next
invariant-loop-next l =
    IsIn l.before (none ∷ bucket_of l.self l.set) × IsIn l.at (after_of l.before none (bucket_of l.self l.set)) × (l.next ≡ (chains_of l.self).next l.set l.before)

abbrev pub decreases-loop-next : goal.decreases-loop-next
decreases-loop-next l = length (after_of l.before none (bucket_of l.self l.set))
