use Rattle.std.proofs.Common.{◌≡◌, take}
use Rattle.sight_sketch.specs.Sketch.{with_places}
use Rattle.sight_sketch.proofs.bit_row.BitRow.set_all.Given as goal

-- the bits of the numbers so far were set
abbrev pub invariant-loop-number : goal.invariant-loop-number
invariant-loop-number l = l.self ≡ with_places l.initial.self (take l.number-index l.number-items)
