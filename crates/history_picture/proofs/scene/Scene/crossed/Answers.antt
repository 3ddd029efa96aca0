use Rattle.std.proofs.Common.{◌++◌, ◌∙◌}
use Rattle.std.specs.Prelude.{codes}
use Rattle.std.proofs.lemmas.Result.{IfOk-weaker}
use Rattle.history_picture.specs.Sentences.{crossed_words}
use Rattle.history_picture.proofs.scene.Scene.crossed.Goals as goal

pub returns : goal.returns
unfolding crossed_words
returns c =
    IfOk-weaker c.format.result _ _ (λ s e. e ∙ (λ i. c.in_ok-first.ensures i ++ (codes " and " ++ (c.in_ok-second.ensures i ++ (codes " have no order: " ++ (c.in_ok-forth.ensures i ++ (codes ", so the first has to stand before the second; and " ++ (c.in_ok-back.ensures i ++ codes ", so the second has to stand before the first")))))))) c.format.ensures.ok
