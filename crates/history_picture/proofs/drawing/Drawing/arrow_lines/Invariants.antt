use Rattle.std.proofs.Common.{◌≡◌, take}
use Rattle.std.specs.Prelude.{string_bytes}
use Rattle.std.specs.List.{flat_map}
use Rattle.history_picture.specs.Pictures.{arrow_text}
use Rattle.history_picture.proofs.drawing.Drawing.arrow_lines.Given as goal

abbrev pub invariant-loop-arrow : goal.invariant-loop-arrow
invariant-loop-arrow l = string_bytes l.text ≡ flat_map (arrow_text l.history l.self) (take l.arrow-index l.arrows)
