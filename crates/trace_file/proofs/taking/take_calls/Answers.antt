use Rattle.std.proofs.Common.{arith}
use Rattle.trace_file.specs.Given.{shown}
use Rattle.trace_file.proofs.ItemFormats.{call_format}
use Rattle.trace_file.proofs.Takings.{take_one, stop_faulty}
use Rattle.trace_file.proofs.taking.take_calls.Goals as goal

pub loop-header-preserved : goal.loop-header-preserved
loop-header-preserved c =
    take_one (call_format c.args.header.version) c.loop-header.invariant c.push_ref.new.self _ (shown c.in-Ok.behind) c.in-Ok-push_ref.ensures.ok (omega arith) c.loop-header.rest.are_bytes c.in-Ok.ensures.read

pub returns-in-Err-Fault-clause-err : goal.returns-in-Err-Fault-clause-err
returns-in-Err-Fault-clause-err c =
    rw c.in-Err-Fault.fault-is (stop_faulty (call_format c.args.header.version) c.loop-header.invariant c.in-Err-Fault.fault (omega arith) (rw c.in-Err-Fault.field-0-is at c.in-Err-Fault.ensures.read))
