use Rattle.std.proofs.Common.{◌++◌, ◌∙◌}
use Rattle.std.specs.Prelude.{codes}
use Rattle.std.specs.Fmt.{decimal}
use Rattle.std.proofs.lemmas.Result.{IfOk-weaker}
use Rattle.history_picture.specs.Sentences.{out_of_order_words}
use Rattle.history_picture.proofs.scene.Scene.out_of_order.Goals as goal

pub returns : goal.returns
unfolding out_of_order_words
returns c =
    IfOk-weaker c.format.result _ _ (λ s e. e ∙ (λ i. codes "place " ++ (decimal c.args.place ++ (codes " of the certificate is out of order: " ++ (c.in_ok-order.ensures i ++ codes ", and stands behind it"))))) c.format.ensures.ok
