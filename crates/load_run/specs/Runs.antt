-- What a run wrote, by how it ended.
use Rattle.std.specs.Prelude.{◌≡◌, ◌≢◌, ◌↔◌, ◌⊎◌, ◌<◌, ◌+◌, ℕ, List, None, Option, count_by, length}
use Rattle.std.specs.Io.KnownBytes.{Appends, Keeps}
use Rattle.trace_file.specs.declared.call.Call.{Call}
use Rattle.certificate_checker.specs.Acceptance.{IsAccepted}
use Rattle.certificate_checker.specs.declared.verdict.Verdict.TheVariants.{Accepted}
use Rattle.figures.specs.declared.form.Form.{Form}
use Rattle.figures.specs.Figures.{form_of}
use Rattle.load.specs.declared.load.Load.{Load}
use Rattle.load_run.specs.declared.run_end.RunEnd.{RunEnd}
use Rattle.load_run.specs.declared.run_end.RunEnd.TheVariants as ends
use Rattle.load_run.specs.declared.summary.Summary.{Summary}
use Rattle.load_run.specs.Ends.{end_of_verdict, status_of}
use Rattle.load_run.specs.Summaries.{is_hit, text_of}
use Rattle.load_run.specs.Wholes.{IsWhole}

-- the summary has the numbers of a history, and the verdict on it and its certificate
pub record IsSummaryOf (summary : Summary) (history : List Call) (certificate : List ℕ) : Type 0 where
  pub calls : summary.calls ≡ length history
  pub hits : summary.hits ≡ count_by is_hit history
  pub verdict : (summary.verdict ≡ Accepted) ↔ IsAccepted history certificate

-- the text of a summary was written in the load's form, whose calls and stopped callers fit the load, and the run ended as it says
pub record IsTold (load : Load) (old new : Option (List ℕ)) (end : RunEnd) : Type 0 where
  pub summary : Summary
  pub history : List Call
  pub certificate : List ℕ
  pub is : IsSummaryOf summary history certificate
  pub whole : IsWhole load summary.calls summary.stopped
  pub wrote : Appends old new (text_of (form_of load.json) summary)
  pub ended : end ≡ end_of_verdict summary.verdict summary.stopped

-- what was written by a run that ended so: the text of its summary if it was judged, else nothing; if a file or the output failed
-- nothing is said
abbrev pub WroteSummary : Load → Option (List ℕ) → Option (List ℕ) → RunEnd → Type 0
WroteSummary load old new ends.Accepted = IsTold load old new ends.Accepted
WroteSummary load old new ends.Rejected = IsTold load old new ends.Rejected
WroteSummary load old new ends.Stopped = IsTold load old new ends.Stopped
WroteSummary load old new ends.SharesExceed = Keeps old new
WroteSummary load old new ends.OutOfMemory = Keeps old new
WroteSummary load old new ends.FileFault = Unit {0}
WroteSummary load old new ends.FinishFault = Keeps old new

-- the summary's text was written in this form, or memory was refused and nothing was, or the output failed
abbrev pub IsSaid : Form → Summary → Option (List ℕ) → Option (List ℕ) → RunEnd → Type 0
IsSaid form summary old new end =
    (Appends old new (text_of form summary) × (end ≡ end_of_verdict summary.verdict summary.stopped))
    ⊎ ((end ≡ ends.OutOfMemory) × Keeps old new)
    ⊎ (end ≡ ends.FileFault)

-- A run of a load ended with this status. It was refused before anything was opened exactly if gets and removes exceed
-- 100; over devices in memory no history is rejected.
pub record IsRunOf (load : Load) (old new : Option (List ℕ)) (status : ℕ) : Type 0 where
  pub end : RunEnd
  pub status_is : status ≡ status_of end
  pub shares : (end ≡ ends.SharesExceed) ↔ (100 < load.gets + load.removes)
  pub wrote : WroteSummary load old new end
  pub accepted : load.device ≡ None → end ≢ ends.Rejected
