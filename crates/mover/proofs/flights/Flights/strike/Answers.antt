use Rattle.std.proofs.Common.{◌≡◌, List, map, sym, ap, ◌∙◌, rules}
use Rattle.std.proofs.lemmas.List.{with_items_is, places}
use Rattle.mover.proofs.public_laws.Listing.{mapped_step, mapped_all}
use Rattle.mover.proofs.public_laws.FlightLists.{sets_struck}
use Rattle.mover.specs.Flight.{Flight, flight_struck, sets_in_flight}
use Rattle.mover.proofs.flights.Flights.strike.Goals as goal

pub loop-flight-preserved : goal.loop-flight-preserved
loop-flight-preserved c =
    mapped_step (flight_struck c.args.hash) c.deref_mut-flight-items.result.now c.loop-flight.flight-items c.loop-flight.flight-index _ c.strike.new.self c.loop-flight.invariant c.loop-flight-test.true c.strike.ensures

pub invariant_of-self : goal.invariant_of-self
invariant_of-self c =
    let fs : List Flight = c.self.inside.flights.items in
    let all : c.loop-flight.flight-items ≡ map (flight_struck c.args.hash) fs =
    c.loop-flight.invariant ∙ mapped_all (flight_struck c.args.hash) c.deref_mut-flight-items.result.now c.loop-flight.flight-index c.loop-flight-test.false
    ∙ ap (map (flight_struck c.args.hash)) c.deref_mut-flight-items.ensures.value in
    record {
      sets_are = c.self.invariant.sets_are ∙ sym (sets_struck c.args.hash fs) ∙ ap sets_in_flight (sym all ∙ sym (with_items_is c.self.inside.flights c.loop-flight.flight-items (search (rules, places))));
      flights_fit = c.self.invariant.flights_fit;
      sets_fit = c.self.invariant.sets_fit;
    }
