use Rattle.load.proofs.SumLaws.{Adds}
use Rattle.load.proofs.cells.add_counts.Given as goal

abbrev pub invariant-loop-cell : goal.invariant-loop-cell
invariant-loop-cell l = Adds l.counts l.fn.counts l.more l.cell
