-- The calls that were appended so far.
use Rattle.std.proofs.Common.{◌≡◌, ◌++◌, take}
use Rattle.judge_run.proofs.taking.append.Given as goal

abbrev pub invariant-loop-position : goal.invariant-loop-position
invariant-loop-position l = l.history ≡ l.fn.history ++ take l.position l.more
