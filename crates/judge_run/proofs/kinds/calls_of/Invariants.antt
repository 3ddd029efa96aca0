-- The calls so far.
use Rattle.std.proofs.Common.{◌≡◌, ◌≤◌, take}
use Rattle.judge_run.specs.Kinds.{calls_of}
use Rattle.judge_run.proofs.kinds.calls_of.Given as goal

abbrev pub invariant-loop-position : goal.invariant-loop-position
invariant-loop-position l = (l.calls ≡ calls_of l.kind (take l.position l.history)) × (l.calls ≤ l.position)
