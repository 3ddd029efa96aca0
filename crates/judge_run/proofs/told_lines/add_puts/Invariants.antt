use Rattle.std.proofs.Common.{◌≡◌, ◌++◌, take}
use Rattle.std.specs.List.{flat_map}
use Rattle.judge_run.specs.Telling.{excluded_positions}
use Rattle.judge_run.proofs.told_lines.add_puts.Given as goal

abbrev pub invariant-loop-excluded : goal.invariant-loop-excluded
invariant-loop-excluded l = l.positions.items ≡ l.fn.positions.items ++ flat_map excluded_positions (take l.excluded-index l.few)
