use Rattle.certificate_finder.specs.WarmSteps.{AreLeast, IsWriteEnd}
use Rattle.certificate_finder.proofs.unput.first_ends_of.Given as goal

-- the least ends of the calls so far
abbrev pub invariant-loop-position : goal.invariant-loop-position
invariant-loop-position l = AreLeast IsWriteEnd l.steps l.position l.ends.items
