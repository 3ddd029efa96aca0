use Rattle.certificate_finder.proofs.EndLemmas.{BestSoFar, StartsBehind}
use Rattle.certificate_finder.proofs.ends.latest_of.Given as goal

-- the calls so far that go with each
abbrev pub invariant-loop-position : goal.invariant-loop-position
invariant-loop-position l = BestSoFar StartsBehind l.steps l.owners l.position l.latest.items
