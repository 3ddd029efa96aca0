-- The line on a trace, and on a fault.
use Rattle.std.proofs.Common.{refl}
use Rattle.certificate_checker.specs.VerdictLine.{bad_trace_line}
use Rattle.certificate_checker.proofs.public_laws.Judging.{line_on_trace, line_on_fault}
use Rattle.certificate_checker.proofs.judgement.judgement_of.Goals as goal

pub returns-in-Ok-on_trace-clause-line : goal.returns-in-Ok-on_trace-clause-line
returns-in-Ok-on_trace-clause-line g c =
    let told = c.in-Ok-on_trace.ensures in (
      told.0,
      line_on_trace _ _ c.in-Ok.trace _ told.0 c.in-Ok.ensures.found c.in-Ok.ensures.end told.1,
      told.2,
    )

pub returns-in-Ok-on_fault-clause-line : goal.returns-in-Ok-on_fault-clause-line
returns-in-Ok-on_fault-clause-line g c =
    let told = c.in-Ok-on_fault.ensures in (
      bad_trace_line c.in-Err.fault,
      line_on_fault _ _ c.in-Err.fault _ (bad_trace_line c.in-Err.fault) told.fault c.in-Err.ensures.fault c.in-Err.ensures.left (told.kind, refl),
      told.line,
    )
