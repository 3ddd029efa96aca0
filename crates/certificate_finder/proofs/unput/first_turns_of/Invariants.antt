use Rattle.certificate_finder.specs.WarmSteps.{AreLeast, IsTurn}
use Rattle.certificate_finder.proofs.unput.first_turns_of.Given as goal

-- the least turns of the calls so far
abbrev pub invariant-loop-position : goal.invariant-loop-position
invariant-loop-position l = AreLeast (IsTurn l.pairs) l.steps l.position l.turns.items
