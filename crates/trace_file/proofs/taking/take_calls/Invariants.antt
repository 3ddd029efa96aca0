use Rattle.std.proofs.Common.{◌-◌, length}
use Rattle.trace_file.specs.Given.{shown}
use Rattle.trace_file.specs.Reading.{call_at}
use Rattle.trace_file.specs.Text.{call_text, IsCallOf}
use Rattle.trace_file.proofs.Takings.{TakenSoFar}
use Rattle.trace_file.proofs.taking.take_calls.Given as goal

abbrev pub invariant-loop-header : goal.invariant-loop-header
invariant-loop-header l = TakenSoFar (call_at l.header.version) (call_text l.header.version) (IsCallOf l.header.version) l.header.count l.initial.history l.history (shown l.cursor) (shown l.rest)

abbrev pub decreases-loop-header : goal.decreases-loop-header
decreases-loop-header l = l.header.count - length l.history
