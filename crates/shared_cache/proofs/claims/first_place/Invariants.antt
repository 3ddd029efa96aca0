use Rattle.std.proofs.Common.{take}
use Rattle.shared_cache.specs.Settled.{FindsFirst}
use Rattle.shared_cache.proofs.claims.first_place.Given as goal

abbrev pub invariant-loop-lane : goal.invariant-loop-lane
invariant-loop-lane l = FindsFirst l.fn.other (take l.lane-index l.settled) l.first
