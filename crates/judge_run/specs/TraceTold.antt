-- The report on a trace.
use Rattle.std.specs.Prelude.{◌≡◌, ℕ, Bool, List, [], ◌++◌, length, codes, Option, IfSome}
use Rattle.std.specs.Io.KnownBytes.{Appends, IsAtEnd, Keeps}
use Rattle.certificate_checker.specs.declared.fault.Fault.{Fault}
use Rattle.certificate_checker.specs.declared.judged.Judged.{Judged}
use Rattle.certificate_checker.specs.declared.judged.Judged.TheVariants as kinds
use Rattle.certificate_checker.specs.declared.verdict.Verdict.{Verdict}
use Rattle.certificate_checker.specs.declared.verdict.Verdict.TheVariants as verdicts
use Rattle.certificate_checker.specs.Acceptance.{IsAccepted}
use Rattle.certificate_checker.specs.Faults.{IsFirstFault}
use Rattle.certificate_checker.specs.Judgements.{IsLineOn}
use Rattle.certificate_checker.specs.VerdictLine.{bad_trace_line, verdict_line}
use Rattle.figures.specs.declared.form.Form.{Form}
use Rattle.figures.specs.declared.form.Form.TheVariants.{Lines, Json}
use Rattle.figures.specs.Figures.{Row, ended, text_of_rows}
use Rattle.history_picture.specs.Places.{IsReasonOf}
use Rattle.trace_file.specs.declared.trace.Trace.{Trace}
use Rattle.trace_file.specs.declared.trace_fault.TraceFault.{TraceFault}
use Rattle.trace_file.specs.Sending.{Begun}
use Rattle.trace_file.specs.Text.{IsTrace}
use Rattle.judge_run.specs.declared.outcome.Outcome.{Outcome}
use Rattle.judge_run.specs.declared.outcome.Outcome.TheVariants.{Accepted, Rejected, Undecided, BadLine, BadTrace}
use Rattle.judge_run.specs.declared.rejection.Rejection.{Rejection}
use Rattle.judge_run.specs.declared.tell_fault.TellFault.{TellFault}
use Rattle.judge_run.specs.declared.tell_fault.TellFault.TheVariants.{OutOfMemory, CountFull, ReadFault, WriteFault}
use Rattle.judge_run.specs.Answers.{answered, begun}
use Rattle.judge_run.specs.Told.{IsBehind}
use Rattle.judge_run.specs.TraceRows.{AreRowsOn, bad_trace_rows, check_rows}

-- what a trace is judged to be
abbrev pub judged_of : Outcome → Judged
judged_of (Accepted acceptance) = kinds.Accepted
judged_of (Rejected rejection) = kinds.Rejected
judged_of (Undecided hits) = kinds.BadTrace
judged_of (BadLine bad) = kinds.BadTrace
judged_of (BadTrace fault) = kinds.BadTrace

-- this is the trace's history, rejected for that fault, with nothing that names its calls and callers
pub record IsRejectionOf (trace : Trace) (fault : Fault) (rejection : Rejection) : Type 0 where
  pub history_is : rejection.history ≡ trace.history
  pub lines_are : rejection.lines.items ≡ []
  pub callers_are : rejection.callers.items ≡ []
  pub from_start : rejection.from_start.items ≡ []
  pub reason_is : IsReasonOf trace.history trace.certificate fault rejection.reason

-- the answer to a trace of this many calls with this verdict, begun
abbrev pub verdict_begun : Form → Verdict → ℕ → List ℕ
verdict_begun form verdict calls = begun form (verdict_line verdict calls ++ codes "\n") (check_rows calls verdict)

-- the answer to what is no trace
abbrev pub bad_trace_answer : Form → TraceFault → List ℕ
bad_trace_answer form fault = answered form (bad_trace_line fault ++ codes "\n") (bad_trace_rows fault)

-- the trace is rejected for its first fault, which is reported, with what is wanted after it
pub record RejectedTold (form : Form) (trace : Trace) (explain : Bool) (rejection : Rejection) (told : List ℕ) : Type 0 where
  pub fault : Fault
  pub first : IsFirstFault trace.history trace.certificate fault
  pub is : IsRejectionOf trace fault rejection
  pub behind : IsBehind form explain [] rejection (verdict_begun form (verdicts.Rejected fault) (length trace.history)) told

-- the report on a trace, by the outcome of judging it
abbrev pub IsPairTold : Form → Trace → Bool → Outcome → List ℕ → Type 0
IsPairTold form trace explain (Accepted acceptance) told =
    (acceptance.trace ≡ trace) × (acceptance.recorded ≡ length trace.history) × IsAccepted trace.history trace.certificate × (told ≡ ended form (verdict_begun form verdicts.Accepted (length trace.history)))
IsPairTold form trace explain (Rejected rejection) told = RejectedTold form trace explain rejection told
IsPairTold form trace explain (Undecided hits) told = ⊥
IsPairTold form trace explain (BadLine bad) told = ⊥
IsPairTold form trace explain (BadTrace fault) told = ⊥

-- the bytes, if they are known, are a trace with this report, and nothing is left after it
pub record ReadTold (form : Form) (known left : Option (List ℕ)) (explain : Bool) (outcome : Outcome) (told : List ℕ) : Type 0 where
  pub trace : Trace
  pub read : IfSome known (λ bytes. IsTrace bytes trace.history trace.certificate)
  pub end : IsAtEnd left
  pub is : IsPairTold form trace explain outcome told

-- the report begins with this line and its line feed, or has these rows first
abbrev pub IsBegunBy : Form → List ℕ → List Row → List ℕ → Type 0
IsBegunBy Lines line rows told = (behind : List ℕ) × (told ≡ line ++ codes "\n" ++ behind)
IsBegunBy Json line rows told = (behind : List Row) × (told ≡ text_of_rows Json (rows ++ behind))

-- the report begins with the verdict on what was read
pub record VerdictTold (form : Form) (known left : Option (List ℕ)) (judged : Judged) (told : List ℕ) : Type 0 where
  pub line : List ℕ
  pub rows : List Row
  pub line_on : IsLineOn known left judged line
  pub rows_on : AreRowsOn known left judged rows
  pub begins : IsBegunBy form line rows told

-- this is the fault of what is no trace, which is reported, and nothing else
pub record BadTold (form : Form) (known left : Option (List ℕ)) (fault : TraceFault) (told : List ℕ) : Type 0 where
  pub line_on : IsLineOn known left kinds.BadTrace (bad_trace_line fault)
  pub rows_on : AreRowsOn known left kinds.BadTrace (bad_trace_rows fault)
  pub told_is : told ≡ bad_trace_answer form fault

-- the report on the bytes of a reader, by the outcome of judging them
abbrev pub IsTraceTold : Form → Option (List ℕ) → Option (List ℕ) → Bool → Outcome → List ℕ → Type 0
IsTraceTold form known left explain (Accepted acceptance) told = ReadTold form known left explain (Accepted acceptance) told × VerdictTold form known left kinds.Accepted told
IsTraceTold form known left explain (Rejected rejection) told = ReadTold form known left explain (Rejected rejection) told × VerdictTold form known left kinds.Rejected told
IsTraceTold form known left explain (Undecided hits) told = ⊥
IsTraceTold form known left explain (BadLine bad) told = ⊥
IsTraceTold form known left explain (BadTrace fault) told = BadTold form known left fault told

-- the report on a trace was written, and nothing else
pub record ToldTrace (form : Form) (known left : Option (List ℕ)) (explain : Bool) (outcome : Outcome) (old new : Option (List ℕ)) : Type 0 where
  pub told : List ℕ
  pub is : IsTraceTold form known left explain outcome told
  pub wrote : Appends old new told

-- of the report on a trace a front was written, and not all of it
pub record BeganTrace (form : Form) (known left : Option (List ℕ)) (explain : Bool) (old new : Option (List ℕ)) : Type 0 where
  pub outcome : Outcome
  pub told : List ℕ
  pub is : IsTraceTold form known left explain outcome told
  pub began : Begun old new told

-- if a trace was not reported, or not whole, nothing was written, or a front; a failed read is reported as a bad trace
abbrev pub IsTraceUntold : Form → Option (List ℕ) → Option (List ℕ) → Bool → Option (List ℕ) → Option (List ℕ) → TellFault → Type 0
IsTraceUntold form known left explain old new OutOfMemory = Keeps old new
IsTraceUntold form known left explain old new CountFull = ⊥
IsTraceUntold form known left explain old new ReadFault = ⊥
IsTraceUntold form known left explain old new WriteFault = BeganTrace form known left explain old new
