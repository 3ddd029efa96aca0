use Rattle.std.proofs.Common.{◌≡◌}
use Rattle.recorded_tests.proofs.cache.many.calls.Given as goal

abbrev pub invariant-loop-number : goal.invariant-loop-number
invariant-loop-number g l = l.pass.sight.clock ≡ l.cache.clock
