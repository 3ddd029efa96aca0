use Rattle.std.proofs.Common.{◌≡◌, length}
use Rattle.std.specs.List.{sum}
use Rattle.load.proofs.cells.zeros.Given as goal

abbrev pub invariant-loop : goal.invariant-loop
invariant-loop l = (length l.counts.items ≡ l.counter) × (sum l.counts.items ≡ 0)
