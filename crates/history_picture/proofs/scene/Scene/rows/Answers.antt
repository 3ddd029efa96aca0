use Rattle.std.proofs.Common.{arith, ◌++◌, ◌∙◌, ap}
use Rattle.std.specs.Prelude.{string_bytes}
use Rattle.history_picture.specs.Names.{names_of}
use Rattle.history_picture.specs.Rows.{row_text}
use Rattle.history_picture.proofs.Listing.{all_listed, listed_more}
use Rattle.history_picture.proofs.scene.Scene.rows.Goals as goal

pub loop-position-preserved : goal.loop-position-preserved
loop-position-preserved c =
    listed_more (row_text c.args.self.now.history.now c.args.self.now.lines.now (names_of c.args.self.now.callers.now) c.args.marks.now c.args.sheet.now) c.args.shown.now c.loop-position.position-index 0
    (string_bytes c.loop-position.text) (string_bytes c.push_str.new.self) c.loop-position-test.true c.loop-position.invariant
    (c.in_ok-push_str.ensures.bytes ∙ ap (λ t. string_bytes c.loop-position.text ++ t) (c.as_str.ensures.value ∙ c.in_ok-row.ensures))

pub returns : goal.returns
returns c =
    all_listed (row_text c.args.self.now.history.now c.args.self.now.lines.now (names_of c.args.self.now.callers.now) c.args.marks.now c.args.sheet.now) c.args.shown.now c.loop-position.position-index
    (string_bytes c.loop-position.text) (omega (arith, c.loop-position-test.false)) c.loop-position.invariant
