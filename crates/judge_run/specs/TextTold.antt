-- The report on a history that was written as text.
use Rattle.std.specs.Prelude.{◌≡◌, ℕ, Bool, true, false, List, [], ◌∷◌, ◌++◌, length, codes, Option}
use Rattle.std.specs.Fmt.{decimal}
use Rattle.std.specs.Io.KnownBytes.{Appends, Keeps}
use Rattle.certificate_checker.specs.Acceptance.{IsAccepted}
use Rattle.certificate_finder.specs.declared.found.Found.{Found}
use Rattle.certificate_finder.specs.declared.found.Found.TheVariants as found
use Rattle.certificate_finder.specs.declared.witness.Witness.{Witness}
use Rattle.certificate_finder.specs.Finding.{AreUndecided}
use Rattle.certificate_finder.specs.Witnesses.{IsWitness}
use Rattle.figures.specs.declared.form.Form.{Form}
use Rattle.figures.specs.Figures.{Row, number, row, word}
use Rattle.history_picture.specs.Names.{names_of}
use Rattle.history_picture.specs.Reasons.{reason_of}
use Rattle.history_text.specs.declared.bad_line.BadLine as bad_lines
use Rattle.history_text.specs.Causes.{bad_line_text, cause_text}
use Rattle.history_text.specs.declared.read_text_fault.ReadTextFault.TheVariants as reading
use Rattle.history_text.specs.declared.read_text_fault.ReadTextFault.TheVariants.{Bad}
use Rattle.history_text.specs.Text.{Text, text_by}
use Rattle.judge_run.specs.CallObjects.{with_calls}
use Rattle.judge_run.specs.FaultsTold.{listed, more_text}
use Rattle.judge_run.specs.Extents.{extent_rows, extent_text, own_of, recorded_of}
use Rattle.judge_run.specs.FoundRows.{calls_row, found_rows, undecided_rows, verdict_row}
use Rattle.judge_run.specs.FromStart.{start_lines}
use Rattle.judge_run.specs.Kinds.{kind_rows}
use Rattle.judge_run.specs.Listing.{AreListed, key_count}
use Rattle.judge_run.specs.Streams.{IsFaultBy, IsJudgedBy}
use Rattle.judge_run.specs.VerdictText.{verdict_text}
use Rattle.trace_file.specs.declared.call.Call.{Call}
use Rattle.trace_file.specs.Sending.{Begun}
use Rattle.judge_run.specs.declared.acceptance.Acceptance.{Acceptance}
use Rattle.judge_run.specs.declared.detail.Detail.{Detail}
use Rattle.judge_run.specs.declared.extent.Extent.{Extent}
use Rattle.judge_run.specs.declared.outcome.Outcome.{Outcome}
use Rattle.judge_run.specs.declared.outcome.Outcome.TheVariants.{Accepted, Rejected, Undecided, BadLine, BadTrace}
use Rattle.judge_run.specs.declared.rejection.Rejection.{Rejection}
use Rattle.judge_run.specs.declared.scope.Scope.{Scope}
use Rattle.judge_run.specs.declared.told_fault.ToldFault.{ToldFault}
use Rattle.judge_run.specs.declared.tell_fault.TellFault.{TellFault}
use Rattle.judge_run.specs.declared.tell_fault.TellFault.TheVariants.{OutOfMemory, CountFull, ReadFault, WriteFault}
use Rattle.judge_run.specs.Answers.{answered, begun, with_file}
use Rattle.judge_run.specs.Told.{IsBehind}

-- the line of a history of this many calls that is accepted
abbrev pub accepted_text : ℕ → List ℕ
accepted_text calls = codes "accepted " ++ decimal calls ++ codes " calls\n"

-- the line of a history with this many undecided hits
abbrev pub undecided_text : ℕ → List ℕ
undecided_text hits = codes "undecided " ++ decimal hits ++ codes " hits\n"

-- the line of a text with a bad line
abbrev pub bad_text : bad_lines.BadLine → List ℕ
bad_text bad = bad_line_text bad ++ codes "\n"

-- the rows of a text with a bad line: its number, and why it is bad
abbrev pub bad_line_rows : bad_lines.BadLine → List Row
bad_line_rows bad = verdict_row (codes "bad line") ∷ row (codes "line") (number bad.number) ∷ row (codes "cause") (word (cause_text bad.cause)) ∷ []

-- the rows before a verdict: how many calls were recorded, how many of each kind, and how they differ from those of the text
abbrev pub front_rows : Extent → List Call → List Row
front_rows extent calls = calls_row (recorded_of extent (length calls)) ∷ (kind_rows extent calls ++ extent_rows extent)

-- the answer to a history of these calls that is accepted
abbrev pub accepted_answer : Form → Extent → List Call → List ℕ
accepted_answer form extent calls =
    answered form (accepted_text (recorded_of extent (length calls)) ++ extent_text extent) (front_rows extent calls ++ verdict_row (codes "accepted") ∷ [])

-- the answer by what was found for calls, which stand on these lines and have these faults, begun
abbrev pub found_begun : Form → List Call → List ℕ → Extent → Found → List ToldFault → List ℕ
found_begun form calls lines extent found faults =
    begun form (verdict_text calls lines extent found ++ extent_text extent) (found_rows calls lines extent found faults)

-- the answer to a history that is rejected, begun
abbrev pub rejected_begun : Form → Text → Extent → Witness → List ToldFault → List ℕ
rejected_begun form text extent witness faults = found_begun form text.calls text.lines extent (found.Rejected witness) faults

-- the same with the calls of the reason, if the calls are rejected and the answer is an object
abbrev pub front_of : Form → List Call → List ℕ → Extent → Found → List ToldFault → List ℕ
front_of form calls lines extent (found.Accepted certificate) faults = found_begun form calls lines extent (found.Accepted certificate) faults
front_of form calls lines extent (found.Rejected witness) faults =
    with_calls form calls lines (own_of extent (length calls)) witness (found_begun form calls lines extent (found.Rejected witness) faults)
front_of form calls lines extent (found.Undecided hits) faults = found_begun form calls lines extent (found.Undecided hits) faults

-- the answer to a history of these calls with this many undecided hits
abbrev pub undecided_answer : Form → Extent → List Call → ℕ → List ℕ
undecided_answer form extent calls hits = answered form (undecided_text hits ++ extent_text extent) (front_rows extent calls ++ undecided_rows hits)

-- the answer to a text with a bad line
abbrev pub bad_answer : Form → bad_lines.BadLine → List ℕ
bad_answer form bad = answered form (bad_text bad) (bad_line_rows bad)

-- a history that is accepted with a certificate, and how many of its calls were recorded
abbrev pub acceptance_of : Extent → List Call → List ℕ → Acceptance
acceptance_of extent calls certificate = record { trace = record { history = calls; certificate = certificate }; recorded = recorded_of extent (length calls) }

-- the history is accepted with this certificate, so many of its calls were recorded, and that is reported
pub record AcceptedTold (form : Form) (text : Text) (extent : Extent) (acceptance : Acceptance) (told : List ℕ) : Type 0 where
  pub history_is : acceptance.trace.history ≡ text.calls
  pub accepted : IsAccepted text.calls acceptance.trace.certificate
  pub recorded_is : acceptance.recorded ≡ recorded_of extent (length text.calls)
  pub told_is : told ≡ accepted_answer form extent text.calls

-- no certificate is accepted, for this reason, and that is reported, with what is wanted after it: all faults of the history, and why it is rejected, which ends with how many faults there are
pub record RejectedTold (form : Form) (text : Text) (extent : Extent) (detail : Detail) (rejection : Rejection) (told : List ℕ) : Type 0 where
  pub text_is : text_by rejection.history rejection.lines.items (names_of rejection.callers.items) ≡ text
  pub witness : Witness
  pub is : IsWitness text.calls witness
  pub reason_is : rejection.reason ≡ reason_of witness
  pub from_start : rejection.from_start.items ≡ start_lines text.lines (own_of extent (length text.calls)) witness
  pub faults : List ToldFault
  pub are_all : AreListed text.calls faults
  pub behind : IsBehind form detail.explain (more_text (length faults) (key_count text.calls faults)) rejection (listed form detail.all text.calls text.lines (own_of extent (length text.calls)) faults (with_calls form text.calls text.lines (own_of extent (length text.calls)) witness (rejected_begun form text extent witness faults))) told

-- for some hits it was not decided what they read, and their number is reported
pub record UndecidedTold (form : Form) (text : Text) (extent : Extent) (count : ℕ) (told : List ℕ) : Type 0 where
  pub hits : List ℕ
  pub are : AreUndecided text.calls hits
  pub count_is : count ≡ length hits
  pub told_is : told ≡ undecided_answer form extent text.calls (length hits)

-- the report on a history, by the outcome of judging it
abbrev pub IsHistoryTold : Form → Text → Extent → Detail → Outcome → List ℕ → Type 0
IsHistoryTold form text extent detail (Accepted acceptance) told = AcceptedTold form text extent acceptance told
IsHistoryTold form text extent detail (Rejected rejection) told = RejectedTold form text extent detail rejection told
IsHistoryTold form text extent detail (Undecided hits) told = UndecidedTold form text extent hits told
IsHistoryTold form text extent detail (BadLine bad) told = ⊥
IsHistoryTold form text extent detail (BadTrace fault) told = ⊥

-- whether a history was accepted, and whether that was decided
abbrev pub told_accepted : Outcome → Bool
told_accepted (Accepted acceptance) = true
told_accepted (Rejected rejection) = false
told_accepted (Undecided hits) = false
told_accepted (BadLine bad) = false
told_accepted (BadTrace fault) = false

abbrev pub told_decided : Outcome → Bool
told_decided (Accepted acceptance) = true
told_decided (Rejected rejection) = true
told_decided (Undecided hits) = false
told_decided (BadLine bad) = false
told_decided (BadTrace fault) = false

-- the bytes, if they are known, spell a history with this report, as it is judged in this scope
pub record SpelledTold (form : Form) (scope : Scope) (known : Option (List ℕ)) (detail : Detail) (outcome : Outcome) (told : List ℕ) : Type 0 where
  pub text : Text
  pub extent : Extent
  pub judged : IsJudgedBy scope.window scope known (told_accepted outcome) (told_decided outcome) text extent
  pub is : IsHistoryTold form text extent detail outcome told

-- the bytes, if they are known, have this first bad line as they are read in this scope, which is reported
pub record BadTold (form : Form) (scope : Scope) (known : Option (List ℕ)) (bad : bad_lines.BadLine) (told : List ℕ) : Type 0 where
  pub read : IsFaultBy scope.window scope known (Bad bad)
  pub told_is : told ≡ bad_answer form bad

-- the report on the bytes of a text, by the outcome of judging them
abbrev pub IsTextTold : Form → Scope → Option (List ℕ) → Detail → Outcome → List ℕ → Type 0
IsTextTold form scope known detail (Accepted acceptance) told = SpelledTold form scope known detail (Accepted acceptance) told
IsTextTold form scope known detail (Rejected rejection) told = SpelledTold form scope known detail (Rejected rejection) told
IsTextTold form scope known detail (Undecided hits) told = SpelledTold form scope known detail (Undecided hits) told
IsTextTold form scope known detail (BadLine bad) told = BadTold form scope known bad told
IsTextTold form scope known detail (BadTrace fault) told = ⊥

-- the report on a text was written, with the name of its file if one is given, and nothing else
pub record ToldText (form : Form) (scope : Scope) (known : Option (List ℕ)) (detail : Detail) (file : Option (List ℕ)) (outcome : Outcome) (old new : Option (List ℕ)) : Type 0 where
  pub told : List ℕ
  pub is : IsTextTold form scope known detail outcome told
  pub wrote : Appends old new (with_file file told)

-- of the report on a text a front was written, and not all of it
pub record BeganText (form : Form) (scope : Scope) (known : Option (List ℕ)) (detail : Detail) (file : Option (List ℕ)) (old new : Option (List ℕ)) : Type 0 where
  pub outcome : Outcome
  pub told : List ℕ
  pub is : IsTextTold form scope known detail outcome told
  pub began : Begun old new (with_file file told)

-- if a text was not reported, or not whole, nothing was written, or a front. That its calls can't be counted is told only if they can't
abbrev pub IsTextUntold : Form → Scope → Option (List ℕ) → Detail → Option (List ℕ) → Option (List ℕ) → Option (List ℕ) → TellFault → Type 0
IsTextUntold form scope known detail file old new OutOfMemory = Keeps old new
IsTextUntold form scope known detail file old new CountFull = Keeps old new × IsFaultBy scope.window scope known reading.CountFull
IsTextUntold form scope known detail file old new ReadFault = Keeps old new
IsTextUntold form scope known detail file old new WriteFault = BeganText form scope known detail file old new

-- these bytes were not written, or not whole: nothing was, or a front
abbrev pub IsUnwritten : List ℕ → Option (List ℕ) → Option (List ℕ) → TellFault → Type 0
IsUnwritten bytes old new OutOfMemory = Keeps old new
IsUnwritten bytes old new CountFull = ⊥
IsUnwritten bytes old new ReadFault = ⊥
IsUnwritten bytes old new WriteFault = Begun old new bytes
