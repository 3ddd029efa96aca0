use Rattle.std.proofs.Common.{length}
use Rattle.entry_pool.specs.Chains.{none}
use Rattle.entry_pool.specs.Rows.{rows_after}
use Rattle.klog_index.specs.Entries.{is_on}
use Rattle.klog_index.proofs.Dropping.{IsDropping}
use Rattle.klog_index.proofs.Walking.{IsWalked}
use Rattle.klog_index.proofs.index.LogIndex.drop_page.Given as goal

abbrev pub invariant-loop-row : goal.invariant-loop-row
invariant-loop-row l = IsDropping (is_on l.segment l.page) l.fn.self l.self-inside.pool × IsWalked (is_on l.segment l.page) l.self-inside.pool.rows l.mark

abbrev pub decreases-loop-row : goal.decreases-loop-row
decreases-loop-row l = length (rows_after l.mark none l.self-inside.pool.rows)
