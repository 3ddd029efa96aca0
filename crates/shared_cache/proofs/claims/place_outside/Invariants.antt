use Rattle.std.proofs.Common.{◌<◌, All, take}
use Rattle.shared_cache.specs.Settled.{all_in}
use Rattle.shared_cache.proofs.claims.place_outside.Given as goal

abbrev pub invariant-loop-pass : goal.invariant-loop-pass
invariant-loop-pass l = All (λ c. c.lane < l.lanes) (all_in (take l.pass l.lists))
