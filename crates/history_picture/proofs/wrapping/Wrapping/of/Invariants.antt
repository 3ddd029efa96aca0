use Rattle.std.proofs.Common.{◌≡◌, fold, take}
use Rattle.history_picture.specs.Wrapping.{broken_of, unbroken, with_sign}
use Rattle.history_picture.proofs.wrapping.Wrapping.of.Given as goal

abbrev pub invariant-loop-sign : goal.invariant-loop-sign
invariant-loop-sign l = broken_of l.wrapping ≡ fold with_sign unbroken (take l.sign-index l.sign-items)
