use Rattle.std.proofs.Common.{take}
use Rattle.history_window.specs.Standing.{StartFrom}
use Rattle.history_window.proofs.streams.first_before.Given as goal

-- the calls so far start at the stamp or later
abbrev pub invariant-loop-position : goal.invariant-loop-position
invariant-loop-position l = StartFrom l.bound (take l.position l.history)
