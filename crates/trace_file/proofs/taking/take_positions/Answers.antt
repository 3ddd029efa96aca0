use Rattle.std.proofs.Common.{arith}
use Rattle.trace_file.specs.Given.{shown}
use Rattle.trace_file.proofs.ItemFormats.{position_format}
use Rattle.trace_file.proofs.Takings.{take_one, stop_faulty}
use Rattle.trace_file.proofs.taking.take_positions.Goals as goal

pub loop-rest-preserved : goal.loop-rest-preserved
loop-rest-preserved c =
    take_one position_format c.loop-rest.invariant c.push.new.self _ (shown c.in-Ok.behind) c.in-Ok-push.ensures.ok (omega arith) c.loop-rest.rest.are_bytes c.in-Ok.ensures

pub returns-in-Err-Fault-clause-err : goal.returns-in-Err-Fault-clause-err
returns-in-Err-Fault-clause-err c = stop_faulty position_format c.loop-rest.invariant c.in-Err-Fault.fault (omega arith) (rw c.in-Err-Fault.field-0-is at c.in-Err-Fault.ensures)
