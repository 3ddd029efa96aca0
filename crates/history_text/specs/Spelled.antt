-- What the code gives of a line, seen as the definitions have it.
use Rattle.std.specs.Prelude.{◌≡◌, ℕ, suc, ◌&&◌, List, if◌then◌else◌, Result, Ok, Err}
use Rattle.trace_file.specs.declared.act.Act.{Act}
use Rattle.trace_file.specs.declared.act.Act.TheVariants as acts
use Rattle.history_text.specs.declared.line_cause.LineCause.{LineCause}
use Rattle.trace_file.specs.declared.call_kind.CallKind.{CallKind}
use Rattle.trace_file.specs.declared.call_kind.CallKind.TheVariants.{Put, Hit, Miss, Remove}
use Rattle.history_text.specs.declared.text_fault.TextFault.{TextFault}
use Rattle.history_text.specs.declared.text_fault.TextFault.TheVariants.{Bad, OutOfMemory}
use Rattle.history_text.specs.declared.spelling.Spelling.{Spelling}
use Rattle.history_text.specs.declared.reading.Reading.{Reading}
use Rattle.history_text.specs.Readings.{is_of_line}
use Rattle.history_text.specs.Spelling.{Spelled}

-- the act of a kind, with the value and the time if it has them
abbrev pub act_by : CallKind → List ℕ → ℕ → Act
act_by Put value time = acts.Put value time
act_by Hit value time = acts.Hit value time
act_by Miss value time = acts.Miss
act_by Remove value time = acts.Remove

-- the call of a line that was taken apart, with the bytes of its key and its value
abbrev pub spelled_by : Spelling → List ℕ → List ℕ → Spelled
spelled_by s key value = record {
  caller = s.caller.now;
  start = s.head.start;
  end = s.head.end;
  key = key;
  act = act_by s.head.kind value s.time;
}

-- the fault is the cause that the definitions give, want of memory aside
abbrev pub IsSaid : {A : Type 0} → Result A LineCause → TextFault → Type 0
IsSaid said (Bad cause) = said ≡ Err cause
IsSaid said OutOfMemory = Unit {0}

-- how many lines were passed over with one for which this is said, if so many were before it; or what is said, if the line may not be passed over
abbrev pub skipped_or : Reading → ℕ → TextFault → Result ℕ TextFault
skipped_or how skipped (Bad cause) = if how.skip_bad && is_of_line cause then Ok (suc skipped) else Err (Bad cause)
skipped_or how skipped OutOfMemory = Err OutOfMemory
