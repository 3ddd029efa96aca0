use Rattle.std.proofs.Common.{◌≡◌, ◌-◌, ◌++◌, ◌∙◌, ap}
use Rattle.std.specs.Prelude.{codes, string_bytes}
use Rattle.std.proofs.lemmas.Result.{IfOk-weaker}
use Rattle.history_picture.specs.Layout.{place_text, x_of, y_of}
use Rattle.history_picture.specs.Pictures.{word_text}
use Rattle.history_picture.proofs.drawing.Drawing.word.Goals as goal

pub returns : goal.returns
unfolding word_text
returns c =
    let call = c.args.call.now in
    let top : c.saturating_sub-top.result ≡ y_of c.args.self.now call.caller - 16 = c.saturating_sub-top.ensures ∙ ap (λ y. y - 16) c.y.ensures.at in
    let place : string_bytes c.in_ok-place.place ≡ place_text (x_of c.args.self.now call.start) (y_of c.args.self.now call.caller - 16) c.args.room 16 =
    c.in_ok-place.ensures ∙ (λ i. place_text (c.x.ensures.at i) (top i) c.args.room 16) in
    IfOk-weaker c.format.result _ _ (λ s e. e ∙ (λ i. codes "<svg " ++ (place i ++ (codes "><text y=\"12\">" ++ (c.act_word-act.ensures i ++ codes "</text></svg>\n"))))) c.format.ensures.ok
