use Rattle.certificate_finder.specs.Lists.{AreAllBelow}
use Rattle.history_window.specs.Settled.{IsSettledHit}
use Rattle.history_window.proofs.settling.unsettled_by.Given as goal

-- the calls so far are listed but for settled hits
abbrev pub invariant-loop-position : goal.invariant-loop-position
invariant-loop-position g l = AreAllBelow (λ p. ¬ IsSettledHit l.bound l.history p) l.position l.kept.items
