-- The explanation, and after it what was there from the start.
use Rattle.std.proofs.Common.{◌∙◌, ◌++◌, ap, string_bytes}
use Rattle.judge_run.specs.FromStart.{start_why}
use Rattle.judge_run.proofs.rejection.Rejection.why.Goals as goal

pub returns : goal.returns
returns c =
    let is = rw (c.scene.ensures.history, c.scene.ensures.lines, c.scene.ensures.callers) at c.in_ok-explained.ensures in
    record {
      explained = string_bytes c.in_ok-explained.explained;
      is = is;
      why_is = c.in_ok-why.ensures ∙ ap (λ start. string_bytes c.in_ok-explained.explained ++ start) (c.as_str.ensures.value ∙ c.in_ok-start.ensures ∙ ap start_why c.deref.ensures.value);
    }
