use Rattle.std.proofs.Common.{◌++◌, ◌∙◌}
use Rattle.std.specs.Prelude.{codes}
use Rattle.std.specs.Fmt.{decimal}
use Rattle.std.proofs.lemmas.Result.{IfOk-weaker}
use Rattle.history_picture.specs.Pictures.{reaching_text}
use Rattle.history_picture.proofs.bars.reaching.Goals as goal

pub returns : goal.returns
unfolding reaching_text
returns c =
    IfOk-weaker c.format.result _ _ (λ s e. e ∙ (λ i. decimal (c.saturating_sub-before.ensures i) ++ (codes " " ++ (decimal c.args.bottom ++ (codes " " ++ (decimal c.args.last ++ (codes " " ++ decimal c.args.bottom))))))) c.format.ensures.ok
