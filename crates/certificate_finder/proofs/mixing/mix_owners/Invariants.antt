use Rattle.certificate_finder.proofs.MixLemmas.{MixedSoFar}
use Rattle.certificate_finder.proofs.mixing.mix_owners.Given as goal

-- the calls so far have their owners
abbrev pub invariant-loop-position : goal.invariant-loop-position
invariant-loop-position l = MixedSoFar l.steps l.stuck l.chosen l.initial.owners.items l.position l.owners.items
