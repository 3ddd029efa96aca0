use Rattle.std.proofs.Common.{◌≡◌, ◌<◌, ◌==◌, ℕ, get_or, false}
use Rattle.memcached_text.proofs.words.before_space.Given as goal

-- none of the bytes so far is a space
abbrev pub invariant-loop-at : goal.invariant-loop-at
invariant-loop-at l = (k : ℕ) → k < l.at → (get_or l.text k 0 == 32) ≡ false
