use Rattle.std.proofs.Common.{length}
use Rattle.trace_file.specs.Sending.{Sent}
use Rattle.trace_file.proofs.to_writer.write_whole.Given as goal

abbrev pub invariant-loop-rest : goal.invariant-loop-rest
invariant-loop-rest g l = Sent (g.W.Write.contents l.initial.writer) (g.W.Write.contents l.writer) l.bytes l.rest

abbrev pub decreases-loop-rest : goal.decreases-loop-rest
decreases-loop-rest g l = length l.rest
