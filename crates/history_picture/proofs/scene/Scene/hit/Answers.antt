use Rattle.std.proofs.Common.{◌∙◌, ap, arith}
use Rattle.std.specs.List.{flat_map}
use Rattle.std.proofs.lemmas.Result.{IfOk-weaker}
use Rattle.history_picture.specs.Sentences.{also_words}
use Rattle.history_picture.proofs.SentenceLaws.{several}
use Rattle.history_picture.proofs.scene.Scene.hit.Goals as goal

pub returns : goal.returns
returns c =
    IfOk-weaker c.format.result _ _ (λ s e. several c.args.self.now.history.now c.args.self.now.lines.now c.args.hit c.args.puts.now _ _ _ (omega arith) c.in_ok-name.ensures (c.in_ok-also.ensures ∙ ap (flat_map (also_words c.args.self.now.history.now c.args.self.now.lines.now c.args.hit)) c.first_eight.ensures) e) c.format.ensures.ok
