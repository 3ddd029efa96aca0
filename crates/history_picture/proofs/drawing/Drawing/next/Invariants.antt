use Rattle.std.proofs.Common.{◌≡◌, take}
use Rattle.history_picture.specs.Pictures.{next_of}
use Rattle.history_picture.proofs.drawing.Drawing.next.Given as goal

abbrev pub invariant-loop-position : goal.invariant-loop-position
invariant-loop-position l = l.next ≡ next_of l.self l.history l.caller l.start (take l.position-index l.shown)
