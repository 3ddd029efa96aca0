use Rattle.std.proofs.Common.{◌∙◌, ap}
use Rattle.std.specs.List.{flat_map}
use Rattle.std.proofs.lemmas.Result.{IfOk-weaker}
use Rattle.history_picture.specs.Sentences.{read_words}
use Rattle.history_picture.proofs.SentenceLaws.{unread_sentence}
use Rattle.history_picture.proofs.scene.Scene.unread.Goals as goal

pub returns : goal.returns
returns c =
    IfOk-weaker c.format.result _ _ (λ s e. unread_sentence c.args.self.now.history.now c.args.self.now.lines.now c.args.unread.now.hit c.args.unread.now.reads.items c.as_slice-reads.result.now _ _ _ c.as_slice-reads.ensures.value c.in_ok-name.ensures (c.in_ok-also.ensures ∙ ap (flat_map (read_words c.args.self.now.history.now c.args.self.now.lines.now)) c.first_three.ensures) e) c.format.ensures.ok
