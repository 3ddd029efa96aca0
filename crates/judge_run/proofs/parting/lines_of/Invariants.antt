-- The lines of the positions so far.
use Rattle.std.proofs.Common.{◌≡◌, take}
use Rattle.judge_run.specs.Telling.{lines_at}
use Rattle.judge_run.proofs.parting.lines_of.Given as goal

abbrev pub invariant-loop-position : goal.invariant-loop-position
invariant-loop-position l = l.all.items ≡ lines_at l.lines (take l.position-index l.positions)
