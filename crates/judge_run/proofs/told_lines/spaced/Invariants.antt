use Rattle.std.proofs.Common.{◌≡◌, take, string_bytes}
use Rattle.judge_run.specs.Telling.{spaced}
use Rattle.judge_run.proofs.told_lines.spaced.Given as goal

abbrev pub invariant-loop-number : goal.invariant-loop-number
invariant-loop-number l = string_bytes l.text ≡ spaced (take l.number-index l.numbers)
