use Rattle.std.proofs.Common.{Err}
use Rattle.trace_file.proofs.ReaderLaws.{fault_in_part, failed_before}
use Rattle.trace_file.proofs.trace_reader.TraceReader.feed.Goals as goal

pub returns-in-Err-clause-first : goal.returns-in-Err-clause-first
returns-in-Err-clause-first c =
    fault_in_part c.args.self.now c.loop-fault.self c.in-Err.fault c.args.piece.now c.loop-fault.rest.now c.split_at.result.0.now c.split_at.result.1.now c.loop-fault.invariant c.split_at.ensures.by_index.0 c.in-Err.ensures.first

pub returns-in-Err-clause-failed_before : goal.returns-in-Err-clause-failed_before
returns-in-Err-clause-failed_before c =
    failed_before c.args.self.now c.loop-fault.self c.args.piece.now c.loop-fault.rest.now (Err c.in-Err.fault) c.loop-fault.invariant c.in-Err.ensures.failed_before
