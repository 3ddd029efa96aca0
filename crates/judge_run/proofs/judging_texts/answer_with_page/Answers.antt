-- The report on what was judged, or on a bad line, was written, or a front of it.
use Rattle.std.proofs.Common.{◌∙◌, ap, option_map, string_bytes, subst, sym}
use Rattle.history_text.specs.declared.read_text_fault.ReadTextFault.{ReadTextFault}
use Rattle.history_text.specs.Text.{text_by}
use Rattle.history_text.specs.Writing.{named}
use Rattle.judge_run.specs.declared.outcome.Outcome.{Outcome}
use Rattle.judge_run.specs.Paged.{IsPagedIf}
use Rattle.judge_run.specs.Streams.{IsFaultBy, was_accepted, was_decided}
use Rattle.judge_run.specs.TextTold.{IsTextTold}
use Rattle.judge_run.proofs.PageLaws.{paged_if}
use Rattle.judge_run.proofs.TextLaws.{text_told, text_unwritten, text_written}
use Rattle.judge_run.proofs.judging_texts.answer_with_page.Goals as goal

pub returns-in-Ok-write_report-clause-ok : goal.returns-in-Ok-write_report-clause-ok
returns-in-Ok-write_report-clause-ok g c =
    let asked = c.args.asked in
    let judged = c.in-Ok.judged in
    let told = c.in-Ok-told_with_page.told in
    let known = g.R.Read.remaining c.args.reader.now in
    let bytes = string_bytes told.text in
    let is = text_told asked.form asked.scope known asked.detail (text_by judged.text.history judged.text.lines.items judged.text.callers) judged.extent (was_accepted judged.found) (was_decided judged.found) told.outcome bytes c.in-Ok.ensures.text c.in-Ok-told_with_page.ensures.accepted c.in-Ok-told_with_page.ensures.decided c.in-Ok-told_with_page.ensures.told in
    text_written asked.form asked.scope known asked.detail (named asked.file) told.outcome bytes (g.W.Write.contents c.args.writer.now) (g.W.Write.contents c.write_report.new.writer) is c.in-Ok-write_report.answer.outcome c.in-Ok-write_report.ensures.outcome c.in-Ok-write_report.ensures.wrote

pub returns-in-Ok-write_report-clause-page : goal.returns-in-Ok-write_report-clause-page
returns-in-Ok-write_report-clause-page g c =
    let asked = c.args.asked in
    let judged = c.in-Ok.judged in
    let told = c.in-Ok-told_with_page.told in
    let answer = c.in-Ok-write_report.answer in
    let known = g.R.Read.remaining c.args.reader.now in
    let text = text_by judged.text.history judged.text.lines.items judged.text.callers in
    subst (λ (o : Outcome). IsPagedIf asked.scope known asked.detail.page o (option_map (λ bytes. bytes.items) answer.page)) (sym c.in-Ok-write_report.ensures.outcome)
    (paged_if asked.form asked.scope known asked.detail text judged.extent told.outcome (string_bytes told.text) _ c.in-Ok-told_with_page.ensures.told record {
      text = text;
      extent = judged.extent;
      found = judged.found;
      list = judged.faults;
      judged = c.in-Ok.ensures.text;
      is_found = c.in-Ok.ensures.found;
      are_all = c.in-Ok.ensures.faults;
      page_is = ap (option_map (λ bytes. bytes.items)) c.in-Ok-write_report.ensures.page ∙ c.in-Ok-told_with_page.ensures.page;
    })

pub returns-in-Err-write_report-clause-err : goal.returns-in-Err-write_report-clause-err
returns-in-Err-write_report-clause-err g c =
    let asked = c.args.asked in
    let judged = c.in-Ok.judged in
    let told = c.in-Ok-told_with_page.told in
    let known = g.R.Read.remaining c.args.reader.now in
    let bytes = string_bytes told.text in
    let is = text_told asked.form asked.scope known asked.detail (text_by judged.text.history judged.text.lines.items judged.text.callers) judged.extent (was_accepted judged.found) (was_decided judged.found) told.outcome bytes c.in-Ok.ensures.text c.in-Ok-told_with_page.ensures.accepted c.in-Ok-told_with_page.ensures.decided c.in-Ok-told_with_page.ensures.told in
    text_unwritten asked.form asked.scope known asked.detail (named asked.file) told.outcome bytes (g.W.Write.contents c.args.writer.now) (g.W.Write.contents c.write_report.new.writer) is c.in-Err-write_report.fault c.in-Err-write_report.ensures.err

pub returns-in-Ok-write_report-2-clause-ok : goal.returns-in-Ok-write_report-2-clause-ok
returns-in-Ok-write_report-2-clause-ok g c =
    let asked = c.args.asked in
    let told = c.in-Ok-told_bad_line.told in
    let known = g.R.Read.remaining c.args.reader.now in
    let bytes = string_bytes told.text in
    let is = subst (λ (o : Outcome). IsTextTold asked.form asked.scope known asked.detail o bytes) (sym c.in-Ok-told_bad_line.ensures.bad) (record { read = subst (λ (f : ReadTextFault). IsFaultBy asked.scope.window asked.scope known f) c.in-Err-Bad.field-0-is c.in-Err-Bad.ensures.fault; told_is = c.in-Ok-told_bad_line.ensures.text }) in
    text_written asked.form asked.scope known asked.detail (named asked.file) told.outcome bytes (g.W.Write.contents c.args.writer.now) (g.W.Write.contents c.write_report-in-Ok-told_bad_line.new.writer) is c.in-Ok-write_report-2.answer.outcome c.in-Ok-write_report-2.ensures.outcome c.in-Ok-write_report-2.ensures.wrote

pub returns-in-Ok-write_report-2-clause-page : goal.returns-in-Ok-write_report-2-clause-page
returns-in-Ok-write_report-2-clause-page g c =
    let asked = c.args.asked in
    let answer = c.in-Ok-write_report-2.answer in
    subst (λ (o : Outcome). IsPagedIf asked.scope (g.R.Read.remaining c.args.reader.now) asked.detail.page o (option_map (λ bytes. bytes.items) answer.page)) (sym (c.in-Ok-write_report-2.ensures.outcome ∙ c.in-Ok-told_bad_line.ensures.bad))
    (ap (option_map (λ bytes. bytes.items)) (c.in-Ok-write_report-2.ensures.page ∙ c.in-Ok-told_bad_line.ensures.page))

pub returns-in-Err-write_report-2-clause-err : goal.returns-in-Err-write_report-2-clause-err
returns-in-Err-write_report-2-clause-err g c =
    let asked = c.args.asked in
    let told = c.in-Ok-told_bad_line.told in
    let known = g.R.Read.remaining c.args.reader.now in
    let bytes = string_bytes told.text in
    let is = subst (λ (o : Outcome). IsTextTold asked.form asked.scope known asked.detail o bytes) (sym c.in-Ok-told_bad_line.ensures.bad) (record { read = subst (λ (f : ReadTextFault). IsFaultBy asked.scope.window asked.scope known f) c.in-Err-Bad.field-0-is c.in-Err-Bad.ensures.fault; told_is = c.in-Ok-told_bad_line.ensures.text }) in
    text_unwritten asked.form asked.scope known asked.detail (named asked.file) told.outcome bytes (g.W.Write.contents c.args.writer.now) (g.W.Write.contents c.write_report-in-Ok-told_bad_line.new.writer) is c.in-Err-write_report-2.fault c.in-Err-write_report-2.ensures.err
