-- The lines are those with the text of the verdict.
use Rattle.std.proofs.Common.{◌∙◌, ap}
use Rattle.std.proofs.lemmas.Result.{IfOk-weaker}
use Rattle.load_run.specs.Summaries.{lines_with}
use Rattle.load_run.proofs.summary.Summary.lines.Goals as goal

pub returns : goal.returns
returns c = IfOk-weaker c.format.result _ _ (λ s e. e ∙ ap (lines_with c.args.self.now) c.in_ok-verdict.ensures) c.format.ensures.ok
