-- The numbers are those at their places.
use Rattle.std.proofs.Common.{sym}
use Rattle.load.proofs.Ranges.{placed}
use Rattle.load.proofs.numbers.served_with.Goals as goal

pub returns-clause-numbers : goal.returns-clause-numbers
returns-clause-numbers c =
    let is = c.layout_with.ensures in
    rw (is.lanes, is.sets, is.memory, is.segments, is.segment_pages, is.entries, is.threshold, is.admit) (sym (placed c.args.numbers.now 0 21 (sym c.told-numbers)))
