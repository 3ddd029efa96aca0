use Rattle.std.proofs.Common.{◌≡◌, ◌<◌, ℕ, get_or, false}
use Rattle.memcached_text.specs.Steps.{is_end}
use Rattle.memcached_text.proofs.request_reader.end_at.Given as goal

-- none of the bytes so far ends a key
abbrev pub invariant-loop-at : goal.invariant-loop-at
invariant-loop-at l = (k : ℕ) → k < l.at → is_end (get_or l.bytes k 0) ≡ false
