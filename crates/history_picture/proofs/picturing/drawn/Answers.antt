use Rattle.std.proofs.Common.{◌∙◌}
use Rattle.std.specs.Prelude.{string_bytes}
use Rattle.history_picture.specs.Names.{names_of}
use Rattle.history_picture.proofs.PictureLaws.{drawn_of}
use Rattle.history_picture.proofs.picturing.drawn.Goals as goal

pub returns-in-Ok : goal.returns-in-Ok
returns-in-Ok c =
    drawn_of c.args.scene.now.history.now c.args.scene.now.lines.now (names_of c.args.scene.now.callers.now) c.args.reason.now c.args.sentence.now c.args.marks.now c.args.shown.now
    c.as_slice-lines.result.now (string_bytes c.in-Ok.text) c.as_slice-arrows.result.now c.in_ok-drawing.drawing
    (c.as_slice-lines.ensures.value ∙ c.in_ok-broken.ensures) c.in_ok-drawing.ensures.calls (c.in_ok-drawing.ensures.feeds ∙ c.feeds.ensures)
    (c.in_ok-drawing.ensures.labels ∙ c.marked_count-labels.ensures) (c.as_slice-arrows.ensures.value ∙ c.in_ok-known.ensures) c.in-Ok.ensures
