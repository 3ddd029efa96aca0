use Rattle.certificate_finder.specs.Lists.{AreAllBelow}
use Rattle.history_window.specs.Streams.{IsRecent}
use Rattle.history_window.proofs.streams.recent.Given as goal

-- the recent hits so far are listed
abbrev pub invariant-loop-position : goal.invariant-loop-position
invariant-loop-position l = AreAllBelow (IsRecent l.bound l.history) l.position l.waiting.items
