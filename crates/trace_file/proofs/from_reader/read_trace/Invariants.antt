use Rattle.std.proofs.Common.{◌-◌, ◌^◌}
use Rattle.trace_file.proofs.public_laws.Readings.{ReadSoFar, length_fed}
use Rattle.trace_file.proofs.from_reader.read_trace.Given as goal

abbrev pub invariant-loop-parts : goal.invariant-loop-parts
invariant-loop-parts g l = ReadSoFar (g.R.Read.remaining l.initial.reader) (g.R.Read.remaining l.reader) l.parts

abbrev pub decreases-loop-parts : goal.decreases-loop-parts
decreases-loop-parts g l = 2 ^ 64 - length_fed l.parts
