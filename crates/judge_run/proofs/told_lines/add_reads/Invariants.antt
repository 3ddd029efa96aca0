use Rattle.std.proofs.Common.{◌≡◌, ◌++◌, take}
use Rattle.std.specs.List.{flat_map}
use Rattle.judge_run.specs.Telling.{crossed_positions}
use Rattle.judge_run.proofs.told_lines.add_reads.Given as goal

abbrev pub invariant-loop-writes : goal.invariant-loop-writes
invariant-loop-writes l = l.positions.items ≡ l.fn.positions.items ++ flat_map crossed_positions (take l.writes-index l.few)
