-- The explanation stands after the answer that was begun.
use Rattle.std.proofs.Common.{◌∙◌, ap, string_bytes}
use Rattle.figures.specs.Figures.{ended}
use Rattle.judge_run.specs.Answers.{with_why}
use Rattle.judge_run.proofs.rejection.Rejection.told_behind.Goals as goal

pub returns-in-Ok : goal.returns-in-Ok
returns-in-Ok c =
    let form = c.args.form in
    rw c.if-not-explain.false
    (record {
      why = string_bytes c.in_ok-explained.explained;
      is = c.in_ok-explained.ensures;
      text_is = c.in-Ok.ensures ∙ ap (ended form) (c.in_ok-tell_why.ensures ∙ ap (with_why form (string_bytes c.args.begun)) (c.as_str.ensures.value ∙ c.in_ok-why.ensures));
    })
