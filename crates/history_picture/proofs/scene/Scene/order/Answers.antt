use Rattle.std.proofs.Common.{◌++◌, ◌∙◌}
use Rattle.std.specs.Prelude.{codes}
use Rattle.std.specs.Fmt.{decimal}
use Rattle.std.proofs.lemmas.Result.{IfOk-weaker}
use Rattle.history_picture.specs.Sentences.{order_words}
use Rattle.history_picture.proofs.scene.Scene.order.Goals as goal

pub returns : goal.returns
unfolding order_words
returns c =
    IfOk-weaker c.format.result _ _ (λ s e. e ∙ (λ i. c.in_ok-first.ensures.name i ++ (codes " ended at " ++ (decimal (c.in_ok-first.ensures.end i) ++ (codes ", before " ++ (c.in_ok-second.ensures.name i ++ (codes " started at " ++ decimal (c.in_ok-second.ensures.start i)))))))) c.format.ensures.ok
