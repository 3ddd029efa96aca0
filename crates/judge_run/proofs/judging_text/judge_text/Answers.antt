-- The text that is judged is the one that was read, with its calls as the scope has them.
use Rattle.std.proofs.Common.{Option, ℕ, subst, sym}
use Rattle.history_text.specs.Text.{text_by}
use Rattle.judge_run.specs.Scopes.{IsJudged}
use Rattle.judge_run.specs.Streams.{IsJudgedBy, was_accepted, was_decided}
use Rattle.judge_run.proofs.judging_text.judge_text.Goals as goal

pub returns-in-Ok-judge_read-clause-text : goal.returns-in-Ok-judge_read-clause-text
returns-in-Ok-judge_read-clause-text g c =
    let read = c.in-Ok.read.text in
    let judged = c.in-Ok-judge_read.judged in
    let known = g.R.Read.remaining c.args.reader.now in
    let text = text_by judged.text.history judged.text.lines.items judged.text.callers in
    let is : IsJudged c.args.scope known text judged.extent = record {
      spelled = text_by read.history read.lines.items read.callers;
      passed = c.in-Ok.read.skipped;
      read = c.in-Ok.ensures.text;
      skipped = c.in-Ok-judge_read.ensures.skipped;
      warmed = c.in-Ok-judge_read.ensures.warmed;
      held = c.in-Ok-judge_read.ensures.held;
    } in
    subst (λ (window : Option ℕ). IsJudgedBy window c.args.scope known (was_accepted judged.found) (was_decided judged.found) text judged.extent) (sym c.in-None.is) is
