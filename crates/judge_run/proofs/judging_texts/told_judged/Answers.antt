-- The report on a text that was judged, if it is rejected.
use Rattle.std.proofs.Common.{◌∙◌, ap, string_bytes, subst, sym}
use Rattle.certificate_finder.specs.declared.found.Found.{Found}
use Rattle.certificate_finder.specs.Finding.{IfRejected, IsFound}
use Rattle.history_text.specs.Text.{text_by}
use Rattle.judge_run.specs.declared.outcome.Outcome.{Outcome}
use Rattle.judge_run.specs.Extents.{own_of}
use Rattle.judge_run.specs.Listing.{IsListed}
use Rattle.judge_run.specs.TextTold.{IsHistoryTold, front_of}
use Rattle.judge_run.proofs.TextLaws.{rejected_told}
use Rattle.judge_run.proofs.judging_texts.told_judged.Goals as goal

pub returns-in-Ok-told_rejected-clause-told : goal.returns-in-Ok-told_rejected-clause-told
returns-in-Ok-told_rejected-clause-told g c =
    let form = c.args.form in
    let judged = c.args.judged in
    let text = text_by judged.text.history judged.text.lines.items judged.text.callers in
    let told = c.in-Ok-told_rejected.told in
    let found = subst (IsFound text.calls) c.in-Rejected.is c.requires.found in
    let listed = subst (λ (f : Found). IfRejected f (λ _. IsListed text.calls judged.faults)) c.in-Rejected.is c.requires.faults in
    subst (λ (outcome : Outcome). IsHistoryTold form text judged.extent c.args.detail outcome (string_bytes told.text)) (sym c.in-Ok-told_rejected.ensures.outcome)
    (rejected_told form text judged.extent c.args.detail c.in-Rejected.witness judged.faults c.own_of-recorded.result c.in-Ok-rejection_of.rejection (string_bytes c.in-Ok.begun) (string_bytes told.text) found.rejected listed
    (c.own_of-recorded.ensures ∙ ap (own_of judged.extent) c.len.ensures.count)
    c.in-Ok-rejection_of.ensures.text c.in-Ok-rejection_of.ensures.from_start c.in-Ok-rejection_of.ensures.reason
    (c.in-Ok.ensures ∙ ap (λ (f : Found). front_of form text.calls text.lines judged.extent f judged.faults.faults.items) c.in-Rejected.is)
    c.in-Ok-told_rejected.ensures.text)
