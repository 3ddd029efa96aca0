use Rattle.std.proofs.Common.{◌<◌, All, take}
use Rattle.shared_cache.proofs.claims.call_outside.Given as goal

abbrev pub invariant-loop-place : goal.invariant-loop-place
invariant-loop-place l = All (λ c. c.lane < l.lanes) (take l.place l.calls)
