use Rattle.std.proofs.Common.{◌≡◌, take}
use Rattle.history_window.specs.Streams.{first_start}
use Rattle.history_window.proofs.streams.first_start.Given as goal

-- the first start of the calls so far
abbrev pub invariant-loop-position : goal.invariant-loop-position
invariant-loop-position l = l.earliest ≡ first_start l.first (take l.position l.history)
