-- The fault of what was fed is that of the bytes.
use Rattle.c_lane.proofs.Feeding.{fault_of_fed}
use Rattle.c_lane.proofs.judging.read.Goals as goal

pub returns-in-Err-clause-err : goal.returns-in-Err-clause-err
returns-in-Err-clause-err c = fault_of_fed c.new-reader.result c.args.bytes.now c.in-Err.fault c.new-reader.ensures c.in-Err.ensures.first
