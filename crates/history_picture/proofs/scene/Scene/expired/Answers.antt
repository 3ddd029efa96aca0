use Rattle.std.proofs.Common.{◌++◌, ◌∙◌}
use Rattle.std.specs.Prelude.{codes}
use Rattle.std.specs.Fmt.{decimal}
use Rattle.std.proofs.lemmas.Result.{IfOk-weaker}
use Rattle.history_picture.specs.Sentences.{expired_words}
use Rattle.history_picture.proofs.scene.Scene.expired.Goals as goal

pub returns : goal.returns
unfolding expired_words
returns c =
    IfOk-weaker c.format.result _ _ (λ s e. e ∙ (λ i. c.in_ok-put.ensures.name i ++ (codes " expired at " ++ (decimal (c.in_ok-put.ensures.time i) ++ (codes ", and the hit was at moment " ++ decimal (c.in_ok-hit.ensures.time i)))))) c.format.ensures.ok
