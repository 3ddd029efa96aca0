use Rattle.std.proofs.Common.{◌≡◌, length}
use Rattle.klog_index.specs.Entries.{is_at, is_in}
use Rattle.klog_index.specs.Rows.{row_of}
use Rattle.klog_index.proofs.rows.row_in.Given as goal

-- only rows at other places were passed over
abbrev pub invariant-loop-row : goal.invariant-loop-row
invariant-loop-row l = row_of (is_at l.place) l.left ≡ row_of (is_in l.set l.place) l.pool.rows

abbrev pub decreases-loop-row : goal.decreases-loop-row
decreases-loop-row l = length l.left
