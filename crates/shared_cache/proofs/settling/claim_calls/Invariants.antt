use Rattle.std.proofs.Common.{◌≡◌, ◌++◌, List, take}
use Rattle.shared_cache.specs.Listed.{Listed}
use Rattle.shared_cache.specs.Settled.{IsMade}
use Rattle.shared_cache.proofs.settling.claim_calls.Given as goal

abbrev pub invariant-loop-place : goal.invariant-loop-place
invariant-loop-place l = record {
  calls : l.claims.calls ≡ l.initial.claims.calls;
  made : (before : List Listed) → IsMade l.lane l.initial.claims before → IsMade l.lane l.claims (before ++ take l.place l.calls);
}
