-- What is told of a history that is rejected, by its own calls and lines.
use Rattle.std.proofs.Common.{◌≡◌, ◌∙◌, ℕ, List, [], ◌++◌, Option, None, Some, ap, length, subst, sym}
use Rattle.std.proofs.Math.Nat.{sub-zero}
use Rattle.certificate_finder.specs.declared.found.Found.TheVariants as found
use Rattle.certificate_finder.specs.Witnesses.{IsWitness}
use Rattle.figures.specs.declared.form.Form.TheVariants.{Json}
use Rattle.figures.specs.Figures.{ended, with_rows}
use Rattle.history_picture.specs.Names.{names_of}
use Rattle.history_text.specs.Readings.{whole}
use Rattle.history_text.specs.Text.{Text, text_by}
use Rattle.judge_run.specs.CallObjects.{with_calls}
use Rattle.judge_run.specs.Extents.{own_of}
use Rattle.judge_run.specs.FoundRows.{found_rows}
use Rattle.judge_run.specs.Listing.{AreListed}
use Rattle.judge_run.specs.TextTold.{ToldText}
use Rattle.judge_run.specs.declared.extent.Extent.{Extent}
use Rattle.judge_run.specs.declared.outcome.Outcome.{Outcome}
use Rattle.judge_run.specs.declared.outcome.Outcome.TheVariants.{Rejected}
use Rattle.judge_run.specs.declared.rejection.Rejection.{Rejection}
use Rattle.judge_run.specs.declared.scope.Scope.{Scope}
use Rattle.judging_tests.specs.Objects.{IsReasonTold, as_spelled}
use Rattle.std.specs.Prelude.{false}

-- of an outcome that is a rejection, told unasked as an object, if nothing was warmed
pub reason_told : (skew : ℕ) (known : Option (List ℕ)) (rejection : Rejection) (old new : List ℕ) (outcome : Outcome) → outcome ≡ Rejected rejection → ToldText Json (record { skew = skew; warm = false; reading = whole; window = None }) known (record { explain = false; all = false; page = false }) None outcome (Some old) (Some new) → IsReasonTold rejection old new
reason_told skew known rejection old new outcome rejects was =
    let scope : Scope = record { skew = skew; warm = false; reading = whole; window = None } in
    let told : ToldText Json scope known (record { explain = false; all = false; page = false }) None (Rejected rejection) (Some old) (Some new) = subst (λ (o : Outcome). ToldText Json scope known (record { explain = false; all = false; page = false }) None o (Some old) (Some new)) rejects was in
    let is = told.is.is in
    let object : Text → Extent → List ℕ = λ text extent. ended Json (with_calls Json text.calls text.lines (own_of extent (length text.calls)) is.witness (with_rows Json [] (found_rows text.calls text.lines extent (found.Rejected is.witness) is.faults))) in
    let of_its_own = ap (λ (text : Text). object text told.is.extent) (sym is.text_is) in
    let judged = told.is.judged in
    let its_own : Extent = told.is.extent in
    let same : its_own ≡ as_spelled = (λ i. record { from_start = judged.warmed.1 i; skipped = judged.skipped i; forgotten = judged.held i }) in
    let unwarmed = ap (object (text_by rejection.history rejection.lines.items (names_of rejection.callers.items))) same in
    let counted = ap (λ (calls : ℕ). ended Json (with_calls Json rejection.history rejection.lines.items calls is.witness (with_rows Json [] (found_rows rejection.history rejection.lines.items as_spelled (found.Rejected is.witness) is.faults)))) (sub-zero (length rejection.history)) in
    record {
      witness = is.witness;
      is = subst (λ (text : Text). IsWitness text.calls is.witness) (sym is.text_is) is.is;
      reason_is = is.reason_is;
      faults = is.faults;
      are_all = subst (λ (text : Text). AreListed text.calls is.faults) (sym is.text_is) is.are_all;
      new_is = told.wrote ∙ ap (λ rest. old ++ rest) (is.behind ∙ of_its_own ∙ unwarmed ∙ counted);
    }
