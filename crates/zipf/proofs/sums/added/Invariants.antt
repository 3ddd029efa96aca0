-- The sum is that of the weights before the next rank.
use Rattle.std.proofs.Common.{◌≡◌}
use Rattle.zipf.specs.Weights.{ahead_of}
use Rattle.zipf.proofs.sums.added.Given as goal

abbrev pub invariant-loop-next : goal.invariant-loop-next
invariant-loop-next l = l.sum ≡ ahead_of l.next
