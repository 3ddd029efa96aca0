use Rattle.std.proofs.Common.{◌≡◌, ◌++◌, map, take}
use Rattle.judge_run.specs.Listing.{reversed_fault}
use Rattle.judge_run.proofs.listing.add_reversed.Given as goal

abbrev pub invariant-loop-call : goal.invariant-loop-call
invariant-loop-call l = l.faults.items ≡ l.fn.faults.items ++ map reversed_fault (take l.call-index l.reversed)
