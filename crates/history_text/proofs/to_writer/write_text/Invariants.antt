use Rattle.std.proofs.Common.{All, take}
use Rattle.std.specs.Io.KnownBytes.{Appends}
use Rattle.history_text.specs.Writing.{HasTextWhere, named, written}
use Rattle.history_text.proofs.to_writer.write_text.Given as goal

-- the lines of the calls so far were written, and all of those have a text
abbrev pub invariant-loop-position : goal.invariant-loop-position
invariant-loop-position g l = record {
  wrote : Appends (g.W.Write.contents l.fn.writer) (g.W.Write.contents l.writer) (written (named l.only) (take l.position l.history));
  have : All (HasTextWhere (named l.only)) (take l.position l.history);
}
