use Rattle.std.proofs.Common.{arith, ◌++◌, ◌∙◌, ap}
use Rattle.std.specs.Prelude.{string_bytes}
use Rattle.history_picture.specs.Labels.{label_at}
use Rattle.history_picture.proofs.Listing.{all_listed, listed_more}
use Rattle.history_picture.proofs.drawing.Drawing.labels.Goals as goal

pub loop-position-preserved : goal.loop-position-preserved
loop-position-preserved c =
    listed_more (label_at c.args.scene.now.history.now c.args.scene.now.lines.now c.args.self.now c.args.marks.now c.args.shown.now) c.args.shown.now c.loop-position.position-index 0
    (string_bytes c.loop-position.text) (string_bytes c.push_str.new.self) c.loop-position-test.true c.loop-position.invariant
    (c.in_ok-push_str.ensures.bytes ∙ ap (λ t. string_bytes c.loop-position.text ++ t) (c.as_str.ensures.value ∙ c.in_ok-label.ensures))

pub returns : goal.returns
returns c =
    all_listed (label_at c.args.scene.now.history.now c.args.scene.now.lines.now c.args.self.now c.args.marks.now c.args.shown.now) c.args.shown.now c.loop-position.position-index
    (string_bytes c.loop-position.text) (omega (arith, c.loop-position-test.false)) c.loop-position.invariant
