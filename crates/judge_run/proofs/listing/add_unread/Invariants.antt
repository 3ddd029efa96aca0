use Rattle.std.proofs.Common.{◌≡◌, ◌++◌, map}
use Rattle.judge_run.specs.Listing.{unread_fault}
use Rattle.judge_run.proofs.listing.add_unread.Given as goal

abbrev pub invariant-loop-unread : goal.invariant-loop-unread
invariant-loop-unread l = l.faults.items ≡ l.fn.faults.items ++ map unread_fault l.yielded
