use Rattle.std.proofs.Common.{◌≡◌, ◌<◌, ◌==◌, ℕ, get_or, false, not}
use Rattle.memcached_text.proofs.words.spaces.Given as goal

-- the bytes so far are spaces
abbrev pub invariant-loop-at : goal.invariant-loop-at
invariant-loop-at l = (k : ℕ) → k < l.at → not (get_or l.text k 0 == 32) ≡ false
