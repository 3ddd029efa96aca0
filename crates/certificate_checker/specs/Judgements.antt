-- What the bytes of a reader are judged to be, and the line that says it.
use Rattle.std.specs.Prelude.{◌≡◌, ℕ, ◌≤◌, ◌⊎◌, List, ◌++◌, length, take, codes, Option, Some, None, IfSome, Result, Ok, Err}
use Rattle.std.specs.Io.KnownBytes.{Appends, Consumes, IsAtEnd}
use Rattle.trace_file.specs.declared.trace.Trace.{Trace}
use Rattle.trace_file.specs.declared.trace_fault.TraceFault.{TraceFault}
use Rattle.trace_file.specs.declared.trace_fault.TraceFault.TheVariants.{ReadFault}
use Rattle.trace_file.specs.Outcome.{Leaves}
use Rattle.trace_file.specs.Reading.{outcome_of, first_fault_of}
use Rattle.trace_file.specs.Sending.{Begun}
use Rattle.certificate_checker.specs.declared.judged.Judged.{Judged}
use Rattle.certificate_checker.specs.declared.judged.Judged.TheVariants as kinds
use Rattle.certificate_checker.specs.declared.verdict.Verdict.{Verdict}
use Rattle.certificate_checker.specs.declared.verdict.Verdict.TheVariants.{Accepted, Rejected}
use Rattle.certificate_checker.specs.Acceptance.{IsAccepted}
use Rattle.certificate_checker.specs.Faults.{IsFirstFault}
use Rattle.certificate_checker.specs.VerdictLine.{verdict_line, bad_trace_line}

-- what a trace with this verdict is judged to be
abbrev pub kind_of : Verdict → Judged
kind_of Accepted = kinds.Accepted
kind_of (Rejected fault) = kinds.Rejected

-- the verdict on a trace: it is accepted, or this is its first fault
abbrev pub IsVerdict : Trace → Verdict → Type 0
IsVerdict trace Accepted = IsAccepted trace.history trace.certificate
IsVerdict trace (Rejected fault) = IsFirstFault trace.history trace.certificate fault

-- a trace is judged by its verdict, and the line tells it
pub record IsTold (trace : Trace) (judged : Judged) (line : List ℕ) : Type 0 where
  pub verdict : Verdict
  pub is : IsVerdict trace verdict
  pub kind : judged ≡ kind_of verdict
  pub line_is : line ≡ verdict_line verdict (length trace.history)

-- what was read is judged so, by this line without its line feed: the line of the trace's verdict, or of the fault of reading
abbrev pub IsJudged : Result Trace TraceFault → Judged → List ℕ → Type 0
IsJudged (Ok trace) judged line = IsTold trace judged line
IsJudged (Err fault) judged line = (judged ≡ kinds.BadTrace) × (line ≡ bad_trace_line fault)

-- these whole bytes are judged so, by this line without its line feed: of the verdict if they are a trace, otherwise of their first fault
abbrev pub IsVerdictLineOf : List ℕ → Judged → List ℕ → Type 0
IsVerdictLineOf bytes judged line = IsJudged (outcome_of bytes) judged line

-- the line of a read that failed after some of these bytes, which have no fault by themselves and were taken from the reader
pub record IsFailedReadOf (bytes : List ℕ) (left : Option (List ℕ)) (judged : Judged) (line : List ℕ) : Type 0 where
  pub at : ℕ
  pub within : at ≤ length bytes
  pub no_fault : first_fault_of (take at bytes) ≡ None
  pub taken : Consumes (Some bytes) left (take at bytes)
  pub is : IsJudged (Err (ReadFault at)) judged line

-- what reading left: nothing after a trace, otherwise what its fault leaves
abbrev pub IsLeftBy : Result Trace TraceFault → Option (List ℕ) → Option (List ℕ) → Type 0
IsLeftBy (Ok trace) known left = IsAtEnd left
IsLeftBy (Err fault) known left = Leaves known left fault

-- the verdict line of some bytes, which are the reader's if those are known; or the line of a failed read in them
pub record IsLineOn (known left : Option (List ℕ)) (judged : Judged) (line : List ℕ) : Type 0 where
  pub read : Result Trace TraceFault
  pub is : IsJudged read judged line
  pub left_is : IsLeftBy read known left
  pub of_reader : IfSome known (λ bytes. IsVerdictLineOf bytes judged line ⊎ IsFailedReadOf bytes left judged line)

-- the line on a reader's bytes was written, with its line feed
pub record WroteLine (known left : Option (List ℕ)) (judged : Judged) (old new : Option (List ℕ)) : Type 0 where
  pub line : List ℕ
  pub is : IsLineOn known left judged line
  pub wrote : Appends old new (line ++ codes "\n")

-- of the line on a reader's bytes, with its line feed, a front was written once, and not all of it
pub record BeganLine (known left : Option (List ℕ)) (old new : Option (List ℕ)) : Type 0 where
  pub judged : Judged
  pub line : List ℕ
  pub is : IsLineOn known left judged line
  pub began : Begun old new (line ++ codes "\n")
