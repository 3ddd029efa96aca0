use Rattle.std.proofs.Common.{◌≡◌, take}
use Rattle.std.specs.Prelude.{string_bytes}
use Rattle.std.specs.List.{flat_map}
use Rattle.history_picture.specs.Pictures.{sign_text}
use Rattle.history_picture.proofs.escaped.on_lines.Given as goal

abbrev pub invariant-loop-sign : goal.invariant-loop-sign
invariant-loop-sign l = string_bytes l.lines ≡ flat_map sign_text (take l.sign-index l.text)
