use Rattle.std.proofs.Common.{◌≡◌, take}
use Rattle.shared_cache.specs.Settled.{IsMade, all_in}
use Rattle.shared_cache.proofs.settling.claim_listed.Given as goal

abbrev pub invariant-loop-pass : goal.invariant-loop-pass
invariant-loop-pass l = record {
  calls : l.claims.calls ≡ l.initial.claims.calls;
  made : IsMade l.lane l.claims (all_in (take l.pass l.lists));
}
