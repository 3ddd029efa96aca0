use Rattle.std.proofs.Common.{◌≡◌, ◌∷◌, take}
use Rattle.std.specs.List.{flat_map}
use Rattle.history_picture.specs.Marks.{excluded_marks}
use Rattle.history_picture.proofs.marks.hit_marks.Given as goal

abbrev pub invariant-loop-put : goal.invariant-loop-put
invariant-loop-put l = l.marks.items ≡ l.hit ∷ flat_map excluded_marks (take l.put-index l.put-items)
