use Rattle.certificate_finder.specs.Owning.{AreKnownOwners}
use Rattle.certificate_finder.proofs.owners.owners_of.Given as goal

-- the calls so far have their owners
abbrev pub invariant-loop-position : goal.invariant-loop-position
invariant-loop-position l = AreKnownOwners l.steps l.position l.owners
