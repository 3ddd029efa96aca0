use Rattle.std.proofs.Common.{◌≡◌, ◌++◌, take, drop}
use Rattle.judge_run.specs.Telling.{put_in}
use Rattle.judge_run.proofs.told_lines.put_in.Given as goal

abbrev pub invariant-loop-place : goal.invariant-loop-place
invariant-loop-place l = record {
  same : l.lines.items ≡ l.fn.lines.items;
  goes_on : put_in l.fn.lines.items l.line ≡ take l.place l.fn.lines.items ++ put_in (drop l.place l.fn.lines.items) l.line;
}
