use Rattle.load.proofs.SumLaws.{adds-more}
use Rattle.load.proofs.cells.add_counts.Goals as goal
use Rattle.std.proofs.Common.{arith}

pub loop-cell-preserved : goal.loop-cell-preserved
loop-cell-preserved c = adds-more _ _ _ _ (let size = c.loop-cell.invariant.size in omega arith) (let alike = c.requires.alike in omega arith) c.loop-cell.invariant
