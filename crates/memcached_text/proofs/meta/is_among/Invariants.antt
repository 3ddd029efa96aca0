use Rattle.std.proofs.Common.{◌≡◌, drop}
use Rattle.memcached_text.specs.Meta.{is_among}
use Rattle.memcached_text.proofs.meta.is_among.Given as goal

-- none of the letters so far is this one
abbrev pub invariant-loop-other : goal.invariant-loop-other
invariant-loop-other l = is_among l.letter l.letters ≡ is_among l.letter (drop l.other-index l.letters)
