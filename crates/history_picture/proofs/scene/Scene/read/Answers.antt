use Rattle.std.proofs.Common.{◌++◌, ◌∙◌}
use Rattle.std.specs.Prelude.{codes}
use Rattle.std.proofs.lemmas.Result.{IfOk-weaker}
use Rattle.history_picture.specs.Sentences.{read_words}
use Rattle.history_picture.proofs.scene.Scene.read.Goals as goal

pub returns : goal.returns
unfolding read_words
returns c =
    IfOk-weaker c.format.result _ _ (λ s e. e ∙ (λ i. codes "; if it read " ++ (c.in_ok-put.ensures i ++ (codes ", " ++ (c.in_ok-forth.ensures i ++ (codes ", so that put has to stand before " ++ (c.in_ok-other.ensures i ++ (codes "; and " ++ (c.in_ok-back.ensures i ++ (codes ", so " ++ (c.in_ok-other.ensures i ++ codes " has to stand before that put"))))))))))) c.format.ensures.ok
