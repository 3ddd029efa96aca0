use Rattle.std.proofs.Common.{◌≡◌, map, drop}
use Rattle.std.specs.List.{list_any}
use Rattle.memcached_text.specs.Meta.{is_mode_outside}
use Rattle.memcached_text.proofs.meta.has_mode_outside.Given as goal

-- none of the flags so far names a mode that is none of these
abbrev pub invariant-loop-flag : goal.invariant-loop-flag
invariant-loop-flag l =
    list_any (is_mode_outside l.modes) (map (λ f. f.now) l.flags) ≡ list_any (is_mode_outside l.modes) (map (λ f. f.now) (drop l.flag-index l.flags))
