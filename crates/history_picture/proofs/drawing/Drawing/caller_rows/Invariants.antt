use Rattle.std.proofs.Common.{◌≡◌, take}
use Rattle.std.specs.Prelude.{string_bytes}
use Rattle.std.specs.List.{flat_map}
use Rattle.history_picture.specs.Names.{names_of}
use Rattle.history_picture.specs.Pictures.{caller_row}
use Rattle.history_picture.proofs.drawing.Drawing.caller_rows.Given as goal

abbrev pub invariant-loop-caller : goal.invariant-loop-caller
invariant-loop-caller l = string_bytes l.text ≡ flat_map (caller_row (names_of l.scene.callers.now) l.self) (take l.caller-index l.caller-items)
