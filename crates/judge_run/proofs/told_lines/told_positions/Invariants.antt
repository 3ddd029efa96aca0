use Rattle.std.proofs.Common.{◌≡◌, take}
use Rattle.judge_run.specs.Telling.{ascending}
use Rattle.judge_run.proofs.told_lines.told_positions.Given as goal

abbrev pub invariant-loop-position : goal.invariant-loop-position
invariant-loop-position l = l.told.items ≡ ascending (take l.position-index l.position-items)
