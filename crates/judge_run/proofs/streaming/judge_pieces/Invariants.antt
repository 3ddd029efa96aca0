use Rattle.std.proofs.Common.{◌+◌, ◌-◌, ◌^◌}
use Rattle.history_text.specs.Pieces.{left_of}
use Rattle.history_text.specs.Reading.{IsAhead}
use Rattle.judge_run.specs.Streams.{IsHeld}
use Rattle.judge_run.proofs.streaming.judge_pieces.Given as goal

-- so far the stream goes on
abbrev pub invariant-loop-end : goal.invariant-loop-end
invariant-loop-end g l = record {
  ahead : IsAhead l.lines.ahead (g.R.Read.remaining l.reader);
  held : IsHeld l.rule (g.R.Read.remaining l.fn.reader) (left_of l.lines (g.R.Read.remaining l.reader)) l.lines l.stream;
}

abbrev pub decreases-loop-end : goal.decreases-loop-end
decreases-loop-end g l = (2 ^ 63 + 1) - l.lines.number
