use Rattle.certificate_finder.specs.Lists.{AreAllBelow}
use Rattle.certificate_finder.specs.WarmSteps.{IsWarmStep}
use Rattle.certificate_finder.proofs.warm_hits.first_hits_of.Given as goal

-- the hits so far are listed
abbrev pub invariant-loop-position : goal.invariant-loop-position
invariant-loop-position l = AreAllBelow (IsWarmStep l.steps) l.position l.hits.items
