-- What writing a trace as text writes.
use Rattle.std.specs.Prelude.{◌≡◌, ◌≢◌, ◌⊎◌, ℕ, All, List, ◌++◌, codes, Option, IfSome}
use Rattle.std.specs.Io.KnownBytes.{Appends, Keeps}
use Rattle.certificate_checker.specs.VerdictLine.{bad_trace_line}
use Rattle.history_text.specs.declared.write_text_fault.WriteTextFault.TheVariants as writing
use Rattle.history_text.specs.Writing.{HasTextWhere, IsFirstWithout, WroteBefore, written}
use Rattle.trace_file.specs.declared.trace.Trace.{Trace}
use Rattle.trace_file.specs.declared.trace_fault.TraceFault.{TraceFault}
use Rattle.trace_file.specs.declared.trace_fault.TraceFault.TheVariants as faults
use Rattle.trace_file.specs.Outcome.{IsFaultOf}
use Rattle.trace_file.specs.Sending.{Begun}
use Rattle.trace_file.specs.Text.{IsTrace}
use Rattle.judge_run.specs.declared.shown.Shown.{Shown}
use Rattle.judge_run.specs.declared.shown.Shown.TheVariants.{Whole, BadTrace, TooLate}
use Rattle.judge_run.specs.declared.tell_fault.TellFault.{TellFault}
use Rattle.judge_run.specs.declared.tell_fault.TellFault.TheVariants.{OutOfMemory, CountFull, ReadFault, WriteFault}

-- the line that says why some bytes are no trace
abbrev pub bad_trace_text : TraceFault → List ℕ
bad_trace_text fault = bad_trace_line fault ++ codes "\n"

-- the bytes, if they are known, are a trace whose calls of the keys that are asked for were all written
pub record ShownWhole (known only old new : Option (List ℕ)) : Type 0 where
  pub trace : Trace
  pub read : IfSome known (λ bytes. IsTrace bytes trace.history trace.certificate)
  pub have : All (HasTextWhere only) trace.history
  pub wrote : Appends old new (written only trace.history)

-- the bytes, if they are known, are no trace for this reason, whose line was written
pub record ShownBad (known : Option (List ℕ)) (fault : TraceFault) (old new : Option (List ℕ)) : Type 0 where
  pub other : fault ≢ faults.OutOfMemory
  pub read : IfSome known (λ bytes. IsFaultOf bytes fault)
  pub wrote : Appends old new (bad_trace_text fault)

-- the bytes, if they are known, are a trace of which the call at this position is the first that is asked for and has no text; those before it were written
pub record ShownBefore (known only old new : Option (List ℕ)) (position : ℕ) : Type 0 where
  pub trace : Trace
  pub read : IfSome known (λ bytes. IsTrace bytes trace.history trace.certificate)
  pub first : IsFirstWithout only trace.history (writing.TooLate position)
  pub wrote : WroteBefore only trace.history old new (writing.TooLate position)

-- what was written if showing ended so
abbrev pub HasShown : Option (List ℕ) → Option (List ℕ) → Shown → Option (List ℕ) → Option (List ℕ) → Type 0
HasShown known only Whole old new = ShownWhole known only old new
HasShown known only (BadTrace fault) old new = ShownBad known fault old new
HasShown known only (TooLate position) old new = ShownBefore known only old new position

-- the text is that of the bytes' trace
pub record ShowsTrace (known only : Option (List ℕ)) (text : List ℕ) : Type 0 where
  pub trace : Trace
  pub read : IfSome known (λ bytes. IsTrace bytes trace.history trace.certificate)
  pub text_is : text ≡ written only trace.history

-- the text is the line that says why the bytes are no trace
pub record ShowsBad (known : Option (List ℕ)) (text : List ℕ) : Type 0 where
  pub fault : TraceFault
  pub read : IfSome known (λ bytes. IsFaultOf bytes fault)
  pub text_is : text ≡ bad_trace_text fault

-- of the text of the bytes' trace, or of the line that says that they are none, a front was written
pub record BeganShowing (known only old new : Option (List ℕ)) : Type 0 where
  pub text : List ℕ
  pub is : ShowsTrace known only text ⊎ ShowsBad known text
  pub began : Begun old new text

-- memory was refused before the first line, or after the lines of some of the trace's first calls
pub data StoppedShowing (known only old new : Option (List ℕ)) : Type 0 where
  Unread : Keeps old new → StoppedShowing known only old new
  Behind : (trace : Trace) → IfSome known (λ bytes. IsTrace bytes trace.history trace.certificate) → WroteBefore only trace.history old new writing.OutOfMemory → StoppedShowing known only old new

-- what was written if not all was shown; a failed read is reported as a bad trace
abbrev pub IsUnshown : Option (List ℕ) → Option (List ℕ) → Option (List ℕ) → Option (List ℕ) → TellFault → Type 0
IsUnshown known only old new OutOfMemory = StoppedShowing known only old new
IsUnshown known only old new CountFull = ⊥
IsUnshown known only old new ReadFault = ⊥
IsUnshown known only old new WriteFault = BeganShowing known only old new

-- what was written if the line of a bad trace was not written
abbrev pub IsBadTraceUntold : TraceFault → Option (List ℕ) → Option (List ℕ) → TellFault → Type 0
IsBadTraceUntold fault old new OutOfMemory = Keeps old new
IsBadTraceUntold fault old new CountFull = ⊥
IsBadTraceUntold fault old new ReadFault = ⊥
IsBadTraceUntold fault old new WriteFault = Begun old new (bad_trace_text fault)
