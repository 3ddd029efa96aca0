use Rattle.certificate_finder.specs.Zones.{ArePositions}
use Rattle.certificate_finder.proofs.ends.positions.Given as goal

-- the positions so far
abbrev pub invariant-loop-position : goal.invariant-loop-position
invariant-loop-position l = ArePositions l.position l.positions.items
