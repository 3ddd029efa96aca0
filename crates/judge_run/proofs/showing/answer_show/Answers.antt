-- What was written of a trace, or of what is none.
use Rattle.judge_run.specs.Showing.{Behind}
use Rattle.judge_run.proofs.showing.answer_show.Goals as goal

pub returns-in-Ok-tell_bad_trace-clause-ok : goal.returns-in-Ok-tell_bad_trace-clause-ok
returns-in-Ok-tell_bad_trace-clause-ok g c = record {
  other = c.in-Ok-tell_bad_trace.ensures.other;
  read = c.in-Err.ensures.fault;
  wrote = c.in-Ok-tell_bad_trace.ensures.ok;
}

pub returns-in-Err-OutOfMemory-clause-err : goal.returns-in-Err-OutOfMemory-clause-err
returns-in-Err-OutOfMemory-clause-err g c =
    let begun = rw c.in-Err-OutOfMemory.field-0-is at c.in-Err-OutOfMemory.ensures.begun in
    Behind c.in-Ok.trace c.in-Ok.ensures.found begun
