use Rattle.std.proofs.Common.{◌≡◌, take}
use Rattle.std.specs.Prelude.{string_bytes}
use Rattle.std.specs.List.{flat_map}
use Rattle.history_picture.specs.Names.{names_of}
use Rattle.history_picture.specs.Rows.{row_text}
use Rattle.history_picture.proofs.scene.Scene.rows.Given as goal

abbrev pub invariant-loop-position : goal.invariant-loop-position
invariant-loop-position l =
    string_bytes l.text ≡ flat_map (row_text l.self.history.now l.self.lines.now (names_of l.self.callers.now) l.marks l.sheet) (take l.position-index l.shown)
