use Rattle.std.proofs.Common.{length}
use Rattle.trace_file.proofs.ReaderLaws.{FedSoFar}
use Rattle.trace_file.proofs.trace_reader.TraceReader.feed.Given as goal

abbrev pub invariant-loop-fault : goal.invariant-loop-fault
invariant-loop-fault l = FedSoFar l.initial.self l.self l.piece l.rest

abbrev pub decreases-loop-fault : goal.decreases-loop-fault
decreases-loop-fault l = length l.rest
