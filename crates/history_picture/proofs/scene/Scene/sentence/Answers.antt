use Rattle.std.proofs.Common.{◌∙◌, ap, sym}
use Rattle.std.proofs.lemmas.Result.{IfOk-weaker}
use Rattle.history_picture.specs.Sentences.{sentence_of}
use Rattle.history_picture.proofs.scene.Scene.sentence.Goals as goal

pub returns-in-NotAPlace : goal.returns-in-NotAPlace
returns-in-NotAPlace c =
    IfOk-weaker c.format.result _ _ (λ s e. e ∙ ap (sentence_of c.args.self.now.history.now c.args.self.now.lines.now) (sym c.in-NotAPlace.is)) c.format.ensures.ok
