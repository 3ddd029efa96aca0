use Rattle.std.proofs.Common.{◌≡◌, ◌∷◌, take}
use Rattle.std.specs.List.{flat_map}
use Rattle.history_picture.specs.Marks.{read_marks}
use Rattle.history_picture.proofs.marks.unread_marks.Given as goal

abbrev pub invariant-loop-writes : goal.invariant-loop-writes
invariant-loop-writes l = l.marks.items ≡ l.unread.hit ∷ flat_map read_marks (take l.writes-index l.writes-items)
