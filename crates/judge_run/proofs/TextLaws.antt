-- What is told of a text, by what was found for what it spells.
use Rattle.std.proofs.Common.{◌≡◌, ◌∙◌, ℕ, Bool, List, Option, Some, None, ap, length, refl, subst, sym}
use Rattle.std.specs.Io.KnownBytes.{Appends, Keeps}
use Rattle.trace_file.specs.declared.call.Call.{Call}
use Rattle.certificate_finder.specs.declared.found.Found.TheVariants as found
use Rattle.certificate_finder.specs.declared.witness.Witness.{Witness}
use Rattle.certificate_finder.specs.Witnesses.{IsWitness}
use Rattle.figures.specs.declared.form.Form.{Form}
use Rattle.history_picture.specs.Names.{names_of}
use Rattle.history_picture.specs.Reasons.{reason_of}
use Rattle.history_text.specs.Text.{Text, text_by}
use Rattle.judge_run.specs.declared.detail.Detail.{Detail}
use Rattle.judge_run.specs.declared.extent.Extent.{Extent}
use Rattle.judge_run.specs.declared.outcome.Outcome.{Outcome}
use Rattle.judge_run.specs.declared.outcome.Outcome.TheVariants.{Accepted, Rejected, Undecided, BadLine, BadTrace}
use Rattle.judge_run.specs.declared.fault_list.FaultList.{FaultList}
use Rattle.judge_run.specs.declared.rejection.Rejection.{Rejection}
use Rattle.judge_run.specs.declared.scope.Scope.{Scope}
use Rattle.judge_run.specs.declared.tell_fault.TellFault.{TellFault}
use Rattle.judge_run.specs.declared.tell_fault.TellFault.TheVariants.{OutOfMemory, CountFull, ReadFault, WriteFault}
use Rattle.judge_run.specs.Answers.{with_file}
use Rattle.judge_run.specs.Extents.{own_of}
use Rattle.judge_run.specs.FaultsTold.{listed, more_text}
use Rattle.judge_run.specs.FromStart.{start_lines}
use Rattle.judge_run.specs.Listing.{IsListed, key_count}
use Rattle.judge_run.specs.Streams.{IsJudgedBy}
use Rattle.judge_run.specs.TextTold.{IsHistoryTold, IsTextTold, IsTextUntold, IsUnwritten, RejectedTold, ToldText, front_of, told_accepted, told_decided}
use Rattle.judge_run.specs.Told.{IsBehind}

pub text_told : (form : Form) (scope : Scope) (known : Option (List ℕ)) (detail : Detail) (text : Text) (extent : Extent) (accepted decided : Bool) (outcome : Outcome) (told : List ℕ) → IsJudgedBy scope.window scope known accepted decided text extent → told_accepted outcome ≡ accepted → told_decided outcome ≡ decided → IsHistoryTold form text extent detail outcome told → IsTextTold form scope known detail outcome told
text_told form scope known detail text extent accepted decided (Accepted acceptance) told judged a d is = record {
  text = text;
  extent = extent;
  judged = subst (λ (one : Bool). IsJudgedBy scope.window scope known one (told_decided (Accepted acceptance)) text extent) (sym a) (subst (λ (one : Bool). IsJudgedBy scope.window scope known accepted one text extent) (sym d) judged);
  is = is;
}
text_told form scope known detail text extent accepted decided (Rejected rejection) told judged a d is = record {
  text = text;
  extent = extent;
  judged = subst (λ (one : Bool). IsJudgedBy scope.window scope known one (told_decided (Rejected rejection)) text extent) (sym a) (subst (λ (one : Bool). IsJudgedBy scope.window scope known accepted one text extent) (sym d) judged);
  is = is;
}
text_told form scope known detail text extent accepted decided (Undecided hits) told judged a d is = record {
  text = text;
  extent = extent;
  judged = subst (λ (one : Bool). IsJudgedBy scope.window scope known one (told_decided (Undecided hits)) text extent) (sym a) (subst (λ (one : Bool). IsJudgedBy scope.window scope known accepted one text extent) (sym d) judged);
  is = is;
}
text_told form scope known detail text extent accepted decided (BadLine bad) told judged a d is = absurd is
text_told form scope known detail text extent accepted decided (BadTrace fault) told judged a d is = absurd is

-- ---- what was written of a report

-- nothing
pub keeps_same : (known : Option (List ℕ)) → Keeps known known
keeps_same None = tt
keeps_same (Some bytes) = refl

module _ (form : Form) (scope : Scope) (known : Option (List ℕ)) (detail : Detail) (file : Option (List ℕ)) (outcome : Outcome) (told : List ℕ) (old new : Option (List ℕ)) (is : IsTextTold form scope known detail outcome told) where
  -- all of it
  pub text_written : (other : Outcome) → other ≡ outcome → Appends old new (with_file file told) → ToldText form scope known detail file other old new
  text_written other same wrote = subst (λ (o : Outcome). ToldText form scope known detail file o old new) (sym same) (record { told = told; is = is; wrote = wrote })

  -- not all of it
  pub text_unwritten : (fault : TellFault) → IsUnwritten (with_file file told) old new fault → IsTextUntold form scope known detail file old new fault
  text_unwritten OutOfMemory kept = kept
  text_unwritten CountFull never = absurd never
  text_unwritten ReadFault never = absurd never
  text_unwritten WriteFault began = record { outcome = outcome; told = told; is = is; began = began }

-- ---- a history that is rejected

same_behind : (form : Form) (explain : Bool) (rejection : Rejection) (told more wanted begun front : List ℕ) → more ≡ wanted → begun ≡ front → IsBehind form explain more rejection begun told → IsBehind form explain wanted rejection front told
same_behind form explain rejection told more wanted begun front m b behind =
    subst (λ (text : List ℕ). IsBehind form explain text rejection front told) m
    (subst (λ (text : List ℕ). IsBehind form explain more rejection text told) b behind)

pub rejected_told : (form : Form) (text : Text) (extent : Extent) (detail : Detail) (witness : Witness) (list : FaultList) (recorded : ℕ) (rejection : Rejection) (begun told : List ℕ) → IsWitness text.calls witness → IsListed text.calls list → recorded ≡ own_of extent (length text.calls) → text_by rejection.history rejection.lines.items (names_of rejection.callers.items) ≡ text → rejection.from_start.items ≡ start_lines text.lines recorded witness → rejection.reason ≡ reason_of witness → begun ≡ front_of form text.calls text.lines extent (found.Rejected witness) list.faults.items → IsBehind form detail.explain (more_text (length list.faults.items) list.keys) rejection (listed form detail.all rejection.history rejection.lines.items recorded list.faults.items begun) told → RejectedTold form text extent detail rejection told
rejected_told form text extent detail witness list recorded rejection begun told is are recorded_is text_is from_start reason begun_is behind =
    let faults = list.faults.items in
    let many = own_of extent (length text.calls) in
    let all : listed form detail.all rejection.history rejection.lines.items recorded faults begun ≡ listed form detail.all text.calls text.lines many faults (front_of form text.calls text.lines extent (found.Rejected witness) faults) =
    ap (λ (cs : List Call). listed form detail.all cs rejection.lines.items recorded faults begun) (ap (λ (t : Text). t.calls) text_is)
    ∙ ap (λ (ls : List ℕ). listed form detail.all text.calls ls recorded faults begun) (ap (λ (t : Text). t.lines) text_is)
    ∙ ap (λ (n : ℕ). listed form detail.all text.calls text.lines n faults begun) recorded_is
    ∙ ap (listed form detail.all text.calls text.lines many faults) begun_is in
    record {
      text_is = text_is;
      witness = witness;
      is = is;
      reason_is = reason;
      from_start = from_start ∙ ap (λ (n : ℕ). start_lines text.lines n witness) recorded_is;
      faults = faults;
      are_all = are.faults;
      behind = same_behind form detail.explain rejection told (more_text (length faults) list.keys) (more_text (length faults) (key_count text.calls faults)) (listed form detail.all rejection.history rejection.lines.items recorded faults begun) (listed form detail.all text.calls text.lines many faults (front_of form text.calls text.lines extent (found.Rejected witness) faults)) (ap (more_text (length faults)) are.keys) all behind;
    }
