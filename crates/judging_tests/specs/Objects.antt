-- Objects that tell a verdict.
use Rattle.std.specs.Prelude.{◌≡◌, ℕ, List, [], ◌∷◌, ◌++◌, None, length, codes}
use Rattle.certificate_checker.specs.declared.fault.Fault.{Fault}
use Rattle.certificate_checker.specs.declared.verdict.Verdict.TheVariants as verdicts
use Rattle.certificate_finder.specs.declared.found.Found.TheVariants as found
use Rattle.certificate_finder.specs.declared.witness.Witness.{Witness}
use Rattle.certificate_finder.specs.Witnesses.{IsWitness}
use Rattle.figures.specs.declared.form.Form.TheVariants.{Json}
use Rattle.figures.specs.Figures.{ended, number, row, text_of_rows, with_rows, word}
use Rattle.figures.specs.Verdicts.{verdict_rows}
use Rattle.history_picture.specs.Reasons.{reason_of}
use Rattle.judge_run.specs.CallObjects.{with_calls}
use Rattle.judge_run.specs.FoundRows.{found_rows}
use Rattle.judge_run.specs.Kinds.{kind_rows}
use Rattle.judge_run.specs.Listing.{AreListed}
use Rattle.judge_run.specs.declared.acceptance.Acceptance.{Acceptance}
use Rattle.judge_run.specs.Extents.{recorded_of}
use Rattle.judge_run.specs.declared.extent.Extent.{Extent}
use Rattle.judge_run.specs.declared.rejection.Rejection.{Rejection}
use Rattle.judge_run.specs.declared.told_fault.ToldFault.{ToldFault}

-- nothing was added to the calls of a text
abbrev pub as_spelled : Extent
as_spelled = record { from_start = None; skipped = None; forgotten = None }

-- the object of a history that is accepted
abbrev pub accepted_object : Acceptance → List ℕ
accepted_object acceptance =
    text_of_rows Json (row (codes "calls") (number (recorded_of as_spelled (length acceptance.trace.history))) ∷ (kind_rows as_spelled acceptance.trace.history ++ row (codes "verdict") (word (codes "accepted")) ∷ []))

-- the object of a history of this many calls that is rejected for this fault
abbrev pub rejected_object : ℕ → Fault → List ℕ
rejected_object calls fault = text_of_rows Json (row (codes "calls") (number calls) ∷ verdict_rows (verdicts.Rejected fault))

-- a fault of the history is told, and nothing after it
pub record IsFaultTold (rejection : Rejection) (old new : List ℕ) : Type 0 where
  pub fault : Fault
  pub new_is : new ≡ old ++ rejected_object (length rejection.history) fault

-- a reason why no certificate is accepted is told, with its kind, its key and its lines, how many faults there are, and the calls of the reason, and nothing after it
pub record IsReasonTold (rejection : Rejection) (old new : List ℕ) : Type 0 where
  pub witness : Witness
  pub is : IsWitness rejection.history witness
  pub reason_is : rejection.reason ≡ reason_of witness
  pub faults : List ToldFault
  pub are_all : AreListed rejection.history faults
  pub new_is : new ≡ old ++ ended Json (with_calls Json rejection.history rejection.lines.items (length rejection.history) witness (with_rows Json [] (found_rows rejection.history rejection.lines.items as_spelled (found.Rejected witness) faults)))
