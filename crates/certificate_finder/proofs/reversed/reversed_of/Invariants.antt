use Rattle.certificate_finder.specs.Finding.{IsReversed}
use Rattle.certificate_finder.specs.Lists.{AreAllBelow}
use Rattle.certificate_finder.proofs.reversed.reversed_of.Given as goal

-- the calls so far that end before they start are listed
abbrev pub invariant-loop-position : goal.invariant-loop-position
invariant-loop-position l = AreAllBelow (IsReversed l.history) l.position l.reversed.items
