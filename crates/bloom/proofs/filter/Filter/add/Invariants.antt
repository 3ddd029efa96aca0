use Rattle.std.proofs.Common.{◌≡◌, take}
use Rattle.bloom.specs.Filter.{with_bits}
use Rattle.bloom.proofs.filter.Filter.add.Given as goal

-- the bits so far were added
abbrev pub invariant-loop-probe : goal.invariant-loop-probe
invariant-loop-probe l = l.self ≡ with_bits l.initial.self (take l.probe-index l.probe-items)
