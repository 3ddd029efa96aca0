use Rattle.std.specs.Io.KnownBytes.{Keeps, prepend_known}
use Rattle.history_text.specs.Reading.{IsAhead}
use Rattle.history_text.proofs.LineLaws.{reads_left}
use Rattle.history_text.proofs.lines.make_ready.Given as goal

abbrev pub invariant-loop-ahead : goal.invariant-loop-ahead
invariant-loop-ahead g l = record {
  ahead : IsAhead l.ahead (g.R.Read.remaining l.reader);
  kept : Keeps (prepend_known l.fn.ahead.bytes (g.R.Read.remaining l.fn.reader)) (prepend_known l.ahead.bytes (g.R.Read.remaining l.reader));
}

abbrev pub decreases-loop-ahead : goal.decreases-loop-ahead
decreases-loop-ahead g l = reads_left l.ahead
