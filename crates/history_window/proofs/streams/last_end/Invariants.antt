use Rattle.std.proofs.Common.{◌≡◌, take}
use Rattle.history_window.specs.Streams.{last_end}
use Rattle.history_window.proofs.streams.last_end.Given as goal

-- the last end of the calls so far
abbrev pub invariant-loop-position : goal.invariant-loop-position
invariant-loop-position l = l.last ≡ last_end l.latest (take l.position l.history)
