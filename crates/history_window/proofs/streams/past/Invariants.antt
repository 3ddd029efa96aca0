use Rattle.certificate_finder.specs.Lists.{AreAllBelow}
use Rattle.history_window.specs.Streams.{IsRecent}
use Rattle.history_window.proofs.streams.past.Given as goal

-- the calls so far are listed but for recent hits
abbrev pub invariant-loop-position : goal.invariant-loop-position
invariant-loop-position l = AreAllBelow (λ p. ¬ IsRecent l.bound l.history p) l.position l.kept.items
