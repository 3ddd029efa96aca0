use Rattle.std.proofs.Common.{◌≤◌, arith, length}
use Rattle.std.specs.Prelude.{string_bytes}
use Rattle.history_picture.proofs.PlainTexts.{boundary_plain}
use Rattle.history_picture.proofs.coded.cut.Goals as goal

pub truncate-requires : goal.truncate-requires
truncate-requires c = λ within.
    let inside : 22 ≤ length (string_bytes c.args.word) = omega (arith, within) in
    let boundary = boundary_plain (string_bytes c.args.word) 22 c.requires inside in (boundary.0, λ positive. boundary.1)
