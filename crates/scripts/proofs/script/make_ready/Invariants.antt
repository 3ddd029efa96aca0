use Rattle.std.specs.Io.KnownBytes.{Keeps}
use Rattle.scripts.specs.Reading.{Moves}
use Rattle.scripts.proofs.AheadLaws.{reads_left}
use Rattle.scripts.proofs.script.make_ready.Given as goal

abbrev pub invariant-loop-writer : goal.invariant-loop-writer
invariant-loop-writer g l = record {
  moves : Moves l.fn.ahead (g.R.Read.remaining l.fn.reader) l.ahead (g.R.Read.remaining l.reader);
  kept : Keeps (g.W.Write.contents l.fn.writer) (g.W.Write.contents l.writer);
}

abbrev pub decreases-loop-writer : goal.decreases-loop-writer
decreases-loop-writer g l = reads_left l.ahead
