use Rattle.std.proofs.Common.{length}
use Rattle.entry_pool.specs.Chains.{none}
use Rattle.entry_pool.specs.Rows.{in_set, rows_after}
use Rattle.klog_index.specs.Entries.{passes_of}
use Rattle.klog_index.proofs.Dropping.{IsDropping}
use Rattle.klog_index.proofs.Walking.{IsWalked}
use Rattle.klog_index.proofs.index.LogIndex.drop_passing.Given as goal

abbrev pub invariant-loop-row : goal.invariant-loop-row
invariant-loop-row g l =
    IsDropping (passes_of l.set (g.T.EntryTest.passing l.test)) l.fn.self l.self-inside.pool × IsWalked (g.T.EntryTest.passing l.test) (in_set l.set l.self-inside.pool.rows) l.mark

abbrev pub decreases-loop-row : goal.decreases-loop-row
decreases-loop-row g l = length (rows_after l.mark none (in_set l.set l.self-inside.pool.rows))
