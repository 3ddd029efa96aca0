use Rattle.history_picture.specs.Measures.{IsSheetSoFar}
use Rattle.history_picture.specs.Names.{names_of}
use Rattle.history_picture.proofs.sheet.Sheet.of.Given as goal

abbrev pub invariant-loop-position : goal.invariant-loop-position
invariant-loop-position l = IsSheetSoFar l.scene.history.now l.scene.lines.now (names_of l.scene.callers.now) l.shown l.position-index l.sheet
