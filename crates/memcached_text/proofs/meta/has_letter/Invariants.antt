use Rattle.std.proofs.Common.{◌≡◌, map, drop}
use Rattle.memcached_text.specs.Meta.{has_letter}
use Rattle.memcached_text.proofs.meta.has_letter.Given as goal

-- none of the flags so far has the letter
abbrev pub invariant-loop-flag : goal.invariant-loop-flag
invariant-loop-flag l = has_letter l.wanted (map (λ f. f.now) l.flags) ≡ has_letter l.wanted (map (λ f. f.now) (drop l.flag-index l.flags))
