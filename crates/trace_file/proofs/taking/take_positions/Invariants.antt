use Rattle.std.proofs.Common.{◌-◌, ◌<◌, ◌^◌, length}
use Rattle.trace_file.specs.Given.{shown}
use Rattle.trace_file.specs.Reading.{position_at}
use Rattle.trace_file.specs.Text.{position_text}
use Rattle.trace_file.proofs.Takings.{TakenSoFar}
use Rattle.trace_file.proofs.taking.take_positions.Given as goal

abbrev pub invariant-loop-rest : goal.invariant-loop-rest
invariant-loop-rest l = TakenSoFar position_at position_text (λ position. position < 2 ^ 32) l.count l.initial.certificate l.certificate (shown l.cursor) (shown l.rest)

abbrev pub decreases-loop-rest : goal.decreases-loop-rest
decreases-loop-rest l = l.count - length l.certificate
