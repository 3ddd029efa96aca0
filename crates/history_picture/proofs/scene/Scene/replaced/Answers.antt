use Rattle.std.proofs.Common.{◌++◌, ◌∙◌}
use Rattle.std.specs.Prelude.{codes}
use Rattle.std.specs.Fmt.{decimal}
use Rattle.std.proofs.lemmas.Result.{IfOk-weaker}
use Rattle.history_picture.specs.Sentences.{replaced_words}
use Rattle.history_picture.proofs.scene.Scene.replaced.Goals as goal

pub returns : goal.returns
unfolding replaced_words
returns c =
    IfOk-weaker c.format.result _ _ (λ s e. e ∙ (λ i. c.in_ok-order.ensures i ++ (codes ", which ended at " ++ (decimal (c.in_ok-write.ensures.end i) ++ (codes ", before the hit started at " ++ decimal (c.in_ok-hit.ensures.start i)))))) c.format.ensures.ok
