use Rattle.std.proofs.Common.{◌≡◌, map, take}
use Rattle.shared_cache.proofs.ending.lists_of.Given as goal

abbrev pub invariant-loop-pass : goal.invariant-loop-pass
invariant-loop-pass l = l.lists.items ≡ map (λ p. p.calls) (take l.pass-index l.passes)
