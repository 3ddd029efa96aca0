use Rattle.std.proofs.Common.{◌≡◌, take}
use Rattle.judge_run.specs.FromStart.{added_among}
use Rattle.judge_run.proofs.from_start.added_among.Given as goal

abbrev pub invariant-loop-position : goal.invariant-loop-position
invariant-loop-position l = l.added.items ≡ added_among l.recorded (take l.position-index l.positions)
