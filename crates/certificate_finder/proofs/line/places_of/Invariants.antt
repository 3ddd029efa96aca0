use Rattle.certificate_finder.specs.Lining.{ArePlaces}
use Rattle.certificate_finder.proofs.line.places_of.Given as goal

-- the zones so far have their places
abbrev pub invariant-loop-index : goal.invariant-loop-index
invariant-loop-index l = ArePlaces l.count l.zones l.index l.places.items
