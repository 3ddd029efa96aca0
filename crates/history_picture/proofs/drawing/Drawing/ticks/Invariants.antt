use Rattle.std.proofs.Common.{◌≡◌, take}
use Rattle.std.specs.Prelude.{string_bytes}
use Rattle.std.specs.List.{flat_map}
use Rattle.history_picture.specs.Axes.{tick_text}
use Rattle.history_picture.proofs.drawing.Drawing.ticks.Given as goal

abbrev pub invariant-loop-stamp : goal.invariant-loop-stamp
invariant-loop-stamp l = string_bytes l.text ≡ flat_map (tick_text l.self) (take l.stamp-index l.stamp-items)
