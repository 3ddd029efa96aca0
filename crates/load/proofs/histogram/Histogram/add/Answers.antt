use Rattle.std.proofs.Common.{arith}
use Rattle.load.proofs.HoldingLaws.{holds_read}
use Rattle.load.proofs.histogram.Histogram.add.Goals as goal

pub invariant_of-self : goal.invariant_of-self
invariant_of-self c =
    let cell = c.cell_of-cell.ensures in
    let inside = rw c.deref.ensures.value at cell.inside in
    let room = c.if-self-ge-MOST_TIMES.false in
    let min_is = c.min-time.ensures in
    rw (c.note_added.ensures, c.max-self-inside.ensures)
    (holds_read c.self.invariant _ _ (omega arith) (omega arith) inside cell.reached cell.below _ c.index_mut.ensures.value)
