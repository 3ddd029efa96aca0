use Rattle.certificate_finder.specs.Offering.{AreListed}
use Rattle.certificate_finder.proofs.in_turn.listed_hits.Given as goal

-- the hits so far have their ranks
abbrev pub invariant-loop-index : goal.invariant-loop-index
invariant-loop-index l = AreListed l.stamp l.steps l.positions l.index l.hits.items
