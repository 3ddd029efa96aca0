use Rattle.std.proofs.Common.{◌≡◌, ◌++◌, map, take}
use Rattle.judge_run.specs.Listing.{crossed_fault}
use Rattle.judge_run.proofs.listing.add_crossed.Given as goal

abbrev pub invariant-loop-writes : goal.invariant-loop-writes
invariant-loop-writes l = l.faults.items ≡ l.fn.faults.items ++ map crossed_fault (take l.writes-index l.crossed)
