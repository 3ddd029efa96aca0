-- The report on the pair that was read, or on the fault.
use Rattle.judge_run.proofs.TraceLines.{of_fault, of_pair}
use Rattle.std.specs.Prelude.{string_bytes}
use Rattle.judge_run.proofs.checking.told_trace.Goals as goal

pub returns-in-Ok-told_pair : goal.returns-in-Ok-told_pair
returns-in-Ok-told_pair g c =
    of_pair c.args.form (g.R.Read.remaining c.args.reader.now) (g.R.Read.remaining c.read_trace.new.reader) c.args.explain c.in-Ok.trace c.in-Ok-told_pair.told.outcome (string_bytes c.in-Ok-told_pair.told.text)
    c.in-Ok.ensures.found c.in-Ok.ensures.end c.in-Ok-told_pair.ensures

pub returns-in-Ok-told_bad_trace : goal.returns-in-Ok-told_bad_trace
returns-in-Ok-told_bad_trace g c =
    of_fault c.args.form (g.R.Read.remaining c.args.reader.now) (g.R.Read.remaining c.read_trace.new.reader) c.args.explain c.in-Err.fault c.in-Ok-told_bad_trace.told.outcome (string_bytes c.in-Ok-told_bad_trace.told.text)
    c.in-Ok-told_bad_trace.ensures.fault c.in-Err.ensures.fault c.in-Err.ensures.left c.in-Ok-told_bad_trace.ensures.bad c.in-Ok-told_bad_trace.ensures.text
