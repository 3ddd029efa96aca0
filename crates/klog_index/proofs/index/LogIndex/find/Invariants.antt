use Rattle.std.proofs.Common.{◌≡◌, length, filter}
use Rattle.std.specs.Prelude.{◌==◌, slice_get}
use Rattle.klog_index.specs.Entries.{of_tag}
use Rattle.klog_index.proofs.index.LogIndex.find.Given as goal

-- so many entries with the tag are still ahead of the one that is asked for
abbrev pub invariant-loop-entry : goal.invariant-loop-entry
invariant-loop-entry l = slice_get (filter (λ e. e.tag == l.tag) l.left) l.ahead ≡ slice_get (of_tag l.set l.tag l.self.entries) l.skip

abbrev pub decreases-loop-entry : goal.decreases-loop-entry
decreases-loop-entry l = length l.left
