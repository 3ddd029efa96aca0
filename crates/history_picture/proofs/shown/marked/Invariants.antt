use Rattle.std.proofs.Common.{take}
use Rattle.history_picture.specs.Chosen.{AreChosen}
use Rattle.history_picture.proofs.shown.marked.Given as goal

abbrev pub invariant-loop-mark : goal.invariant-loop-mark
invariant-loop-mark l = AreChosen l.history (take l.mark-index l.marks) l.shown.items
