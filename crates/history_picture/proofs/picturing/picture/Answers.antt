use Rattle.std.proofs.Common.{◌∙◌, arith}
use Rattle.std.specs.Prelude.{string_bytes}
use Rattle.history_picture.specs.Names.{names_of}
use Rattle.history_picture.proofs.ExplainLaws.{room_for_marks}
use Rattle.history_picture.proofs.PictureLaws.{pictured}
use Rattle.history_picture.proofs.picturing.picture.Goals as goal

pub shown-requires : goal.shown-requires
shown-requires c = room_for_marks c.args.reason.now c.as_slice-marks.result.now 24 (c.as_slice-marks.ensures.value ∙ c.in_ok-matter.ensures) (omega arith)

pub returns : goal.returns
returns c =
    pictured c.args.scene.now.history.now c.args.scene.now.lines.now (names_of c.args.scene.now.callers.now) c.args.reason.now
    c.as_str.result.now c.as_slice-marks.result.now c.as_slice-shown.result.now c.in_ok-chosen.chosen.items
    (string_bytes c.in_ok-text.text) (c.as_str.ensures.value ∙ c.in_ok-sentence.ensures) (c.as_slice-marks.ensures.value ∙ c.in_ok-matter.ensures)
    c.as_slice-shown.ensures.value c.in_ok-chosen.ensures c.in_ok-text.ensures
