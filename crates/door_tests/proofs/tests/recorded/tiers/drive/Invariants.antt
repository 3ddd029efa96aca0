use Rattle.std.proofs.Common.{◌≡◌}
use Rattle.door_tests.proofs.tests.recorded.tiers.drive.Given as goal

abbrev pub invariant-loop-number : goal.invariant-loop-number
invariant-loop-number g l = l.pass.sight.clock ≡ l.cache.clock
