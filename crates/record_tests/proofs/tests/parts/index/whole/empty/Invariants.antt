use Rattle.std.proofs.Common.{◌≡◌}
use Rattle.record_tests.proofs.tests.parts.index.whole.empty.Given as goal

abbrev pub invariant-loop-set : goal.invariant-loop-set
invariant-loop-set l = l.index.sets ≡ 65536
