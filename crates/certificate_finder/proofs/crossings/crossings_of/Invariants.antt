use Rattle.certificate_finder.proofs.CrossingLemmas.{CrossingsSoFar}
use Rattle.certificate_finder.proofs.crossings.crossings_of.Given as goal

-- the zones so far follow on but those of the keys that are listed, and the one that starts last of the last key is known
abbrev pub invariant-loop-index : goal.invariant-loop-index
invariant-loop-index l = CrossingsSoFar l.zones l.crossings.items l.index l.high
