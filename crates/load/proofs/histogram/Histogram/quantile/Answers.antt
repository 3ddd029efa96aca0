use Rattle.std.proofs.Common.{arith}
use Rattle.load.proofs.HoldingLaws.{sum-is, quantile_read, share_is_within}
use Rattle.load.proofs.histogram.Histogram.quantile.Goals as goal

pub cell_with-cell-requires-clause-few : goal.cell_with-cell-requires-clause-few
cell_with-cell-requires-clause-few c = rw c.deref.ensures.value (let few = c.self.invariant.few in omega (arith, sum-is c.self.invariant))

pub cell_with-cell-requires-clause-enough : goal.cell_with-cell-requires-clause-enough
cell_with-cell-requires-clause-enough c =
    rw c.deref.ensures.value (share_is_within c.self.invariant _ c.requires.within)

pub returns : goal.returns
returns c =
    let cell = c.cell_with-cell.ensures in
    let inside = rw c.deref.ensures.value at cell.inside in
    let reached = rw c.deref.ensures.value at cell.reached in
    let below = rw c.deref.ensures.value at cell.below in
    rw (← c.self.view_is, c.min.ensures)
    (quantile_read c.self.invariant _ _ _ inside reached below c.index.ensures)
