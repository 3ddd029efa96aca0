use Rattle.std.proofs.Common.{◌++◌, ◌∙◌}
use Rattle.std.specs.Prelude.{codes}
use Rattle.std.specs.Fmt.{decimal}
use Rattle.std.proofs.lemmas.Result.{IfOk-weaker}
use Rattle.history_picture.specs.Sentences.{wrong_hit_words}
use Rattle.history_picture.proofs.scene.Scene.wrong_hit.Goals as goal

pub returns : goal.returns
unfolding wrong_hit_words
returns c =
    IfOk-weaker c.format.result _ _ (λ s e. e ∙ (λ i. c.in_ok-name.ensures i ++ (codes " is wrong at place " ++ (decimal c.args.place ++ (codes " of the certificate: " ++ c.in_ok-latest.ensures i))))) c.format.ensures.ok
