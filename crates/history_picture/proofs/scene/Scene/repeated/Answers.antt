use Rattle.std.proofs.Common.{◌++◌, ◌∙◌}
use Rattle.std.specs.Prelude.{codes}
use Rattle.std.specs.Fmt.{decimal}
use Rattle.std.proofs.lemmas.Result.{IfOk-weaker}
use Rattle.history_picture.specs.Sentences.{repeated_words}
use Rattle.history_picture.proofs.scene.Scene.repeated.Goals as goal

pub returns : goal.returns
unfolding repeated_words
returns c =
    IfOk-weaker c.format.result _ _ (λ s e. e ∙ (λ i. codes "place " ++ (decimal c.args.place ++ (codes " of the certificate repeats " ++ c.in_ok-name.ensures i)))) c.format.ensures.ok
