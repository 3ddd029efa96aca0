-- The rows of the reason stand after the verdict, and the numbers after those.
use Rattle.std.proofs.Common.{◌∙◌, ℕ, List, ap, codes, length, string_bytes, sym}
use Rattle.std.proofs.lemmas.List.Sums.{fold-append}
use Rattle.figures.specs.Figures.{with_row, with_rows}
use Rattle.judge_run.specs.Extents.{own_of}
use Rattle.judge_run.specs.FoundRows.{count_rows, verdict_row}
use Rattle.judge_run.specs.Listing.{key_count}
use Rattle.judge_run.specs.ReasonRows.{reason_rows}
use Rattle.judge_run.proofs.telling_rows.tell_rejected.Goals as goal

pub returns-in-Ok : goal.returns-in-Ok
returns-in-Ok g c =
    let form = c.args.form in
    let calls = c.args.judged.now.text.history in
    let faults = c.args.judged.now.faults.faults.items in
    let begun = with_row form (string_bytes c.args.text.now) (verdict_row (codes "rejected")) in
    let reason = reason_rows calls c.args.judged.now.text.lines.items (own_of c.args.judged.now.extent (length calls)) c.args.witness.now in
    let counts = count_rows (length faults) (key_count calls faults) in
    c.in-Ok.ensures
    ∙ ap (λ (text : List ℕ). with_rows form text counts) (c.in_ok-tell_witness.ensures ∙ ap (λ (text : List ℕ). with_rows form text reason) c.in_ok-tell.ensures)
    ∙ sym (fold-append (with_row form) begun reason counts)
