use Rattle.std.proofs.Common.{◌≡◌, take}
use Rattle.std.specs.Prelude.{string_bytes}
use Rattle.std.specs.List.{flat_map}
use Rattle.history_picture.specs.Labels.{label_at}
use Rattle.history_picture.proofs.drawing.Drawing.labels.Given as goal

abbrev pub invariant-loop-position : goal.invariant-loop-position
invariant-loop-position l = string_bytes l.text ≡ flat_map (label_at l.scene.history.now l.scene.lines.now l.self l.marks l.shown) (take l.position-index l.shown)
