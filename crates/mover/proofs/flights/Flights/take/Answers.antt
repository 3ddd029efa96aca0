use Rattle.std.proofs.Common.{Some, sym, ap, subst, ◌∙◌, ◌<◌, ◌≤◌, remove, length, List, slice_get, ◌≡◌}
use Rattle.std.proofs.lemmas.Option.{slice_get-get_or}
use Rattle.mover.specs.Flight.{Flight, most_flights, sets_in_flight}
use Rattle.mover.proofs.public_laws.FlightLists.{map_removed}
use Rattle.mover.proofs.flights.Flights.take.Goals as goal

pub invariant_of-self : goal.invariant_of-self
invariant_of-self c = record {
  sets_are =
      c.remove.ensures.items ∙ ap (λ (ns : List _). remove ns c.args.at) c.self.invariant.sets_are
      ∙ map_removed (λ (f : Flight). f.moving.set) c.self.inside.flights.items c.args.at ∙ ap sets_in_flight (sym c.remove-2.ensures.items);
  flights_fit = subst (λ n. most_flights ≤ n) (sym c.remove-2.ensures.capacity) c.self.invariant.flights_fit;
  sets_fit = subst (λ n. most_flights ≤ n) (sym c.remove.ensures.capacity) c.self.invariant.sets_fit;
}

pub returns-clause-its : goal.returns-clause-its
returns-clause-its c =
    subst (λ (fs : List Flight). slice_get fs c.args.at ≡ Some c.remove-2.result) c.self.view_is
    (slice_get-get_or c.self.inside.flights.items c.args.at c.remove-2.result (subst (λ (fs : List Flight). c.args.at < length fs) (sym c.self.view_is) c.requires) ∙ ap Some (sym c.remove-2.ensures.value))
