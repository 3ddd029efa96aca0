use Rattle.klog_index.specs.Entries.{is_of_any, without}
use Rattle.klog_index.specs.First.{FindsFirst}
use Rattle.klog_index.specs.Rows.{entries_of}
use Rattle.klog_index.proofs.index.LogIndex.first_of.Given as goal

-- the first of the rows so far that are of none of the sets
abbrev pub invariant-loop-row : goal.invariant-loop-row
invariant-loop-row l = FindsFirst l.segment (without (is_of_any l.sets) (entries_of l.yielded)) l.first
