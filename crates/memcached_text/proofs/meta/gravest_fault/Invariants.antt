use Rattle.std.proofs.Common.{◌≡◌, [], None, map, take, drop}
use Rattle.memcached_text.specs.Meta.{gravest}
use Rattle.memcached_text.proofs.meta.gravest_fault.Given as goal

-- the fault that is told of the flags so far, and then of the rest
abbrev pub invariant-loop-at : goal.invariant-loop-at
invariant-loop-at l =
    gravest [] None (map (λ w. w.now) l.flags) ≡ gravest (map (λ w. w.now) (take l.at l.flags)) l.told (map (λ w. w.now) (drop l.at l.flags))
