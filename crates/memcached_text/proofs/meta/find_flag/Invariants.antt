use Rattle.std.proofs.Common.{◌≡◌, map, drop}
use Rattle.memcached_text.specs.Meta.{flag_at}
use Rattle.memcached_text.proofs.meta.find_flag.Given as goal

-- none of the flags so far has the letter
abbrev pub invariant-loop-flag : goal.invariant-loop-flag
invariant-loop-flag l = flag_at l.wanted (map (λ f. f.now) l.flags) ≡ flag_at l.wanted (map (λ f. f.now) (drop l.flag-index l.flags))
