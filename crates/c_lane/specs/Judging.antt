-- What a trace is judged to be, and the line that says it.
use Rattle.std.specs.Prelude.{◌≡◌, ℕ, List, ◌++◌, length, take, drop, min, Result, Ok, Err}
use Rattle.trace_file.specs.declared.trace.Trace.{Trace}
use Rattle.trace_file.specs.declared.trace_fault.TraceFault.{TraceFault}
use Rattle.trace_file.specs.Reading.{outcome_of}
use Rattle.certificate_checker.specs.declared.verdict.Verdict.{Verdict}
use Rattle.certificate_checker.specs.declared.verdict.Verdict.TheVariants.{Accepted, Rejected}
use Rattle.certificate_checker.specs.Judgements.{IsVerdict}
use Rattle.certificate_checker.specs.VerdictLine.{verdict_line, bad_trace_line}
use Rattle.c_lane.specs.declared.status.Status.{Status}
use Rattle.c_lane.specs.declared.status.Status.TheVariants as statuses

-- the status of a verdict
abbrev pub status_of_verdict : Verdict → Status
status_of_verdict Accepted = statuses.Done
status_of_verdict (Rejected fault) = statuses.Rejected

-- the status and the line of a trace: those of its verdict
pub record IsLineOfTrace (trace : Trace) (status : Status) (line : List ℕ) : Type 0 where
  pub verdict : Verdict
  pub is : IsVerdict trace verdict
  pub status_is : status ≡ status_of_verdict verdict
  pub line_is : line ≡ verdict_line verdict (length trace.history)

-- the status and the line of bytes that are no trace: those of their first fault
pub record IsLineOfFault (fault : TraceFault) (status : Status) (line : List ℕ) : Type 0 where
  pub memory : fault ≡ TraceFault.OutOfMemory → ⊥
  pub status_is : status ≡ statuses.BadTrace
  pub line_is : line ≡ bad_trace_line fault

-- the status and the line of what was read
abbrev pub IsLineBy : Result Trace TraceFault → Status → List ℕ → Type 0
IsLineBy (Ok trace) status line = IsLineOfTrace trace status line
IsLineBy (Err fault) status line = IsLineOfFault fault status line

-- the status and the line of some bytes: of their verdict if they are a trace, else of their first fault
abbrev pub IsLineFor : List ℕ → Status → List ℕ → Type 0
IsLineFor bytes status line = IsLineBy (outcome_of bytes) status line

-- a buffer with this many bytes of a text at its front
abbrev pub front_written : List ℕ → List ℕ → ℕ → List ℕ
front_written text buffer len = take len text ++ drop len buffer

-- the line of the bytes was written to the front of a buffer, as much of it as there is room for
pub record WritesLine (bytes buffer : List ℕ) (status : Status) (into : List ℕ) (len : ℕ) : Type 0 where
  pub line : List ℕ
  pub is : IsLineFor bytes status line
  pub len_is : len ≡ min (length line) (length buffer)
  pub written : into ≡ front_written line buffer len

-- nothing was judged, for want of memory
pub record LacksMemory (buffer into : List ℕ) (len : ℕ) : Type 0 where
  pub into_is : into ≡ buffer
  pub len_is : len ≡ 0

-- What is written, by the status.
abbrev pub JudgesTrace : List ℕ → List ℕ → Status → List ℕ → ℕ → Type 0
JudgesTrace bytes buffer statuses.NoMemory into len = LacksMemory buffer into len
JudgesTrace bytes buffer status into len = WritesLine bytes buffer status into len
