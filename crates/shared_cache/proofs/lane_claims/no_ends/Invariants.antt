use Rattle.std.proofs.Common.{◌≡◌, replicate, None}
use Rattle.shared_cache.proofs.lane_claims.no_ends.Given as goal

abbrev pub invariant-loop : goal.invariant-loop
invariant-loop l = l.ends.items ≡ replicate l.counter None
