use Rattle.std.proofs.Common.{arith}
use Rattle.history_picture.specs.Names.{names_of}
use Rattle.history_picture.proofs.Measuring.{all_widened, widened}
use Rattle.history_picture.proofs.sheet.Sheet.of.Goals as goal

pub loop-position-preserved : goal.loop-position-preserved
loop-position-preserved c =
    widened c.args.scene.now.history.now c.args.scene.now.lines.now (names_of c.args.scene.now.callers.now) c.args.shown.now c.loop-position.position-index
    c.loop-position.sheet c.widen_at.new.self c.loop-position-test.true c.loop-position.invariant c.in_ok-widen_at.ensures

pub returns : goal.returns
returns c =
    all_widened c.args.scene.now.history.now c.args.scene.now.lines.now (names_of c.args.scene.now.callers.now) c.args.shown.now c.loop-position.position-index
    c.loop-position.sheet (omega (arith, c.loop-position-test.false)) c.loop-position.invariant
