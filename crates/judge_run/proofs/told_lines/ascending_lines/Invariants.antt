use Rattle.std.proofs.Common.{◌≡◌, take}
use Rattle.judge_run.specs.Telling.{ascending, lines_at}
use Rattle.judge_run.proofs.told_lines.ascending_lines.Given as goal

abbrev pub invariant-loop-position : goal.invariant-loop-position
invariant-loop-position l = l.told.items ≡ ascending (lines_at l.lines (take l.position-index l.positions))
