use Rattle.std.proofs.Common.{◌≡◌, ℕ, ◌<◌, true}
use Rattle.shared_cache.specs.Finished.{has_pass}
use Rattle.shared_cache.proofs.claims.missing.Given as goal

abbrev pub invariant-loop-caller : goal.invariant-loop-caller
invariant-loop-caller l = (other : ℕ) → other < l.caller → has_pass l.passes other ≡ true
