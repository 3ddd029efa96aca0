use Rattle.std.proofs.Common.{◌≡◌, take}
use Rattle.std.specs.List.{flat_map}
use Rattle.history_picture.specs.Drawings.{callers_at}
use Rattle.history_picture.proofs.drawing.all_callers.Given as goal

abbrev pub invariant-loop-position : goal.invariant-loop-position
invariant-loop-position l = l.callers.items ≡ flat_map (callers_at l.history) (take l.position-index l.shown)
