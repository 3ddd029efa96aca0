-- The calls that are widened so far.
use Rattle.std.proofs.Common.{◌≡◌, map, take}
use Rattle.clock_skew.specs.Widening.{widened}
use Rattle.clock_skew.proofs.widening.widened.Given as goal

abbrev pub invariant-loop-position : goal.invariant-loop-position
invariant-loop-position l = l.wide ≡ map (widened l.skew) (take l.position l.history)
