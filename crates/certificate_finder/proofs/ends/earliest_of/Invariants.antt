use Rattle.certificate_finder.proofs.EndLemmas.{BestSoFar, EndsBefore}
use Rattle.certificate_finder.proofs.ends.earliest_of.Given as goal

-- the calls so far that go with each
abbrev pub invariant-loop-position : goal.invariant-loop-position
invariant-loop-position l = BestSoFar EndsBefore l.steps l.owners l.position l.earliest.items
