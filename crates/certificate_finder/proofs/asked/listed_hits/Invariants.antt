use Rattle.certificate_finder.specs.Asking.{Asking, TellsHit}
use Rattle.certificate_finder.specs.Lists.{Lists}
use Rattle.certificate_finder.proofs.asked.listed_hits.Given as goal

-- the hits so far are listed
abbrev pub invariant-loop-position : goal.invariant-loop-position
invariant-loop-position l = Lists l.steps Asking TellsHit l.position l.hits.items
