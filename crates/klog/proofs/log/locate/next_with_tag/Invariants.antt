use Rattle.std.proofs.Common.{◌≡◌, length}
use Rattle.klog.specs.Find.{with_tag}
use Rattle.klog.proofs.log.locate.next_with_tag.Given as goal

-- only entries with other tags were passed over
abbrev pub invariant-loop-entry : goal.invariant-loop-entry
invariant-loop-entry l = with_tag l.tag l.entries ≡ with_tag l.tag l.initial.entries

abbrev pub decreases-loop-entry : goal.decreases-loop-entry
decreases-loop-entry l = length l.entries
