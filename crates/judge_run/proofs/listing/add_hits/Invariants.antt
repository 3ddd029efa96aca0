use Rattle.std.proofs.Common.{◌≡◌, ◌++◌, map}
use Rattle.judge_run.specs.Listing.{hit_fault}
use Rattle.judge_run.proofs.listing.add_hits.Given as goal

abbrev pub invariant-loop-wrong : goal.invariant-loop-wrong
invariant-loop-wrong l = l.faults.items ≡ l.fn.faults.items ++ map hit_fault l.yielded
