use Rattle.certificate_finder.specs.Lists.{Lists}
use Rattle.certificate_finder.specs.Putting.{Putting}
use Rattle.certificate_finder.specs.WarmSteps.{TellsPair}
use Rattle.certificate_finder.proofs.unput.listed_pairs.Given as goal

-- the pairs so far are listed
abbrev pub invariant-loop-position : goal.invariant-loop-position
invariant-loop-position l = Lists l.steps Putting TellsPair l.position l.pairs.items
