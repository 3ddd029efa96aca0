use Rattle.std.proofs.Common.{◌≡◌}
use Rattle.mover.specs.Flight.{flight_struck}
use Rattle.mover.proofs.public_laws.Listing.{mapped_to}
use Rattle.mover.proofs.flights.Flights.strike.Given as goal

abbrev pub invariant-loop-flight : goal.invariant-loop-flight
invariant-loop-flight l = l.flight-items ≡ mapped_to (flight_struck l.hash) l.flight-index l.initial.flight-items
