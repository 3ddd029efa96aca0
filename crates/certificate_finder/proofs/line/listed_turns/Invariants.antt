use Rattle.certificate_finder.specs.Lining.{AreTurned}
use Rattle.certificate_finder.proofs.line.listed_turns.Given as goal

-- the calls so far have their turns
abbrev pub invariant-loop-position : goal.invariant-loop-position
invariant-loop-position l = AreTurned l.steps l.owners l.places l.zones l.position l.line.items
