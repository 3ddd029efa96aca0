use Rattle.std.proofs.Common.{◌≡◌, take, string_bytes}
use Rattle.judge_run.specs.FromStart.{start_text}
use Rattle.judge_run.proofs.from_start.start_text.Given as goal

abbrev pub invariant-loop-line : goal.invariant-loop-line
invariant-loop-line l = string_bytes l.text ≡ start_text (take l.line-index l.lines)
