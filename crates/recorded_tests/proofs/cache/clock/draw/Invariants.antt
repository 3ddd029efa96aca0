use Rattle.std.proofs.Common.{◌≡◌}
use Rattle.recorded_tests.proofs.cache.clock.draw.Given as goal

abbrev pub invariant-loop : goal.invariant-loop
invariant-loop l = l.seat.clock ≡ l.clock
