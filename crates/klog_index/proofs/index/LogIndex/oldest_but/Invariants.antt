use Rattle.std.proofs.Common.{◌≡◌, length}
use Rattle.klog_index.specs.First.{first_but, oldest_but}
use Rattle.klog_index.specs.Rows.{entries_of}
use Rattle.klog_index.proofs.index.LogIndex.oldest_but.Given as goal

-- only entries of the segment and of these sets were passed over
abbrev pub invariant-loop-row : goal.invariant-loop-row
invariant-loop-row l = first_but l.segment l.sets (entries_of l.left) ≡ oldest_but l.segment l.sets l.self.entries

abbrev pub decreases-loop-row : goal.decreases-loop-row
decreases-loop-row l = length l.left
