use Rattle.certificate_finder.proofs.CrossingLemmas.{StillSoFar}
use Rattle.certificate_finder.proofs.crossings.still_stuck.Given as goal

-- the keys of crossed zones so far are marked, and the one that starts last of the last key is known
abbrev pub invariant-loop-index : goal.invariant-loop-index
invariant-loop-index l = StillSoFar l.zones l.stuck l.still.items l.index l.high
