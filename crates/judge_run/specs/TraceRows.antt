-- The rows that tell what the bytes of a reader are judged to be.
use Rattle.std.specs.Prelude.{◌≡◌, ℕ, ◌≤◌, ◌⊎◌, List, [], ◌∷◌, length, take, codes, Option, Some, None, IfSome, Result, Ok, Err}
use Rattle.std.specs.Io.KnownBytes.{Consumes}
use Rattle.certificate_checker.specs.declared.judged.Judged.{Judged}
use Rattle.certificate_checker.specs.declared.judged.Judged.TheVariants as kinds
use Rattle.certificate_checker.specs.declared.verdict.Verdict.{Verdict}
use Rattle.certificate_checker.specs.Judgements.{IsLeftBy, IsVerdict, kind_of}
use Rattle.figures.specs.Figures.{Row, number, row, word}
use Rattle.figures.specs.Verdicts.{verdict_rows}
use Rattle.judge_run.specs.FoundRows.{calls_row, verdict_row}
use Rattle.trace_file.specs.declared.trace.Trace.{Trace}
use Rattle.trace_file.specs.declared.trace_fault.TraceFault.{TraceFault}
use Rattle.trace_file.specs.declared.trace_fault.TraceFault.TheVariants.{BadMagic, TooMany, BadKind, BadKey, BadValue, Truncated, TrailingBytes, ReadFault, OutOfMemory}
use Rattle.trace_file.specs.Reading.{outcome_of, first_fault_of}

-- a verdict on this many calls
abbrev pub check_rows : ℕ → Verdict → List Row
check_rows calls verdict = calls_row calls ∷ verdict_rows verdict

-- the name of a fault of reading
abbrev pub fault_name : TraceFault → List ℕ
fault_name (BadMagic at) = codes "BadMagic"
fault_name (TooMany at) = codes "TooMany"
fault_name (BadKind at) = codes "BadKind"
fault_name (BadKey at) = codes "BadKey"
fault_name (BadValue at) = codes "BadValue"
fault_name (Truncated at) = codes "Truncated"
fault_name (TrailingBytes at) = codes "TrailingBytes"
fault_name (ReadFault at) = codes "ReadFault"
fault_name OutOfMemory = codes "OutOfMemory"

-- the offset of a fault of reading, if it has one
abbrev pub offset_of : TraceFault → Option ℕ
offset_of (BadMagic at) = Some at
offset_of (TooMany at) = Some at
offset_of (BadKind at) = Some at
offset_of (BadKey at) = Some at
offset_of (BadValue at) = Some at
offset_of (Truncated at) = Some at
offset_of (TrailingBytes at) = Some at
offset_of (ReadFault at) = Some at
offset_of OutOfMemory = None

-- an offset, if there is one
abbrev pub at_rows : Option ℕ → List Row
at_rows (Some at) = row (codes "at") (number at) ∷ []
at_rows None = []

-- what is no trace: the name of the fault of reading, and its offset
abbrev pub bad_trace_rows : TraceFault → List Row
bad_trace_rows fault = verdict_row (codes "bad trace") ∷ row (codes "fault") (word (fault_name fault)) ∷ at_rows (offset_of fault)

-- a trace is judged by its verdict, and the rows tell it
pub record AreVerdictRows (trace : Trace) (judged : Judged) (rows : List Row) : Type 0 where
  pub verdict : Verdict
  pub is : IsVerdict trace verdict
  pub kind : judged ≡ kind_of verdict
  pub rows_are : rows ≡ check_rows (length trace.history) verdict

-- what was read is judged so, by these rows: those of the trace's verdict, or of the fault of reading
abbrev pub AreJudged : Result Trace TraceFault → Judged → List Row → Type 0
AreJudged (Ok trace) judged rows = AreVerdictRows trace judged rows
AreJudged (Err fault) judged rows = (judged ≡ kinds.BadTrace) × (rows ≡ bad_trace_rows fault)

-- the rows of a read that failed after some of these bytes, which have no fault by themselves and were taken from the reader
pub record AreFailedReadRows (bytes : List ℕ) (left : Option (List ℕ)) (judged : Judged) (rows : List Row) : Type 0 where
  pub at : ℕ
  pub within : at ≤ length bytes
  pub no_fault : first_fault_of (take at bytes) ≡ None
  pub taken : Consumes (Some bytes) left (take at bytes)
  pub are : AreJudged (Err (ReadFault at)) judged rows

-- the rows of the verdict on some bytes, which are the reader's if those are known; or those of a failed read in them
pub record AreRowsOn (known left : Option (List ℕ)) (judged : Judged) (rows : List Row) : Type 0 where
  pub read : Result Trace TraceFault
  pub are : AreJudged read judged rows
  pub left_is : IsLeftBy read known left
  pub of_reader : IfSome known (λ bytes. AreJudged (outcome_of bytes) judged rows ⊎ AreFailedReadRows bytes left judged rows)
