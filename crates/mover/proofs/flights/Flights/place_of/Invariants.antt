use Rattle.std.proofs.Common.{◌≢◌, All, take}
use Rattle.mover.specs.Flight.{Flight}
use Rattle.mover.proofs.flights.Flights.place_of.Given as goal

abbrev pub invariant-loop-at : goal.invariant-loop-at
invariant-loop-at l = All (λ (f : Flight). f.moving.number ≢ l.number) (take l.at l.self-inside.flights.items)
