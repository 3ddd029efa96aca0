use Rattle.history_picture.specs.Names.{names_of}
use Rattle.history_page.specs.CallLines.{line_at}
use Rattle.history_page.proofs.Ranges.{next_line}
use Rattle.history_page.proofs.call_lines.push_calls.Goals as goal

pub loop-position-preserved : goal.loop-position-preserved
loop-position-preserved c =
    next_line (line_at c.args.scene.now.history.now c.args.scene.now.lines.now (names_of c.args.scene.now.callers.now) c.args.recorded) c.loop-position.position c.args.page.now.items c.loop-position.page.items c.push_line.new.page.items c.loop-position.invariant c.in-Ok.ensures
