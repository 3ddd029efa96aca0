use Rattle.std.proofs.Common.{◌≡◌, Option, Some, refl, sym, ap, subst, ◌∙◌}
use Rattle.std.specs.Prelude.{IsSome, slice_get}
use Rattle.mover.specs.Flight.{Flight, flight_of, without_flight}
use Rattle.mover.specs.Store.{StoreState}
use Rattle.mover.specs.Lane.{lane_of}
use Rattle.mover.proofs.public_laws.FlightLists.{number_of_found}
use Rattle.mover.proofs.store.Store.move_abort.Goals as goal

pub returns : goal.returns
returns g c =
    let old = c.args.self.now in
    let f : Flight = c.take_flight-given_up.result in
    let found : flight_of c.args.number old.flights ≡ Some f =
    subst (λ (x : StoreState g.row.D.Denot). flight_of c.args.number x.flights ≡ slice_get x.flights c.in-Some.at) c.self.view_is c.in-Some.ensures.found ∙ c.take_flight-given_up.ensures.was in
    let left = c.take_flight-given_up.ensures.taken ∙ ap (λ n. record old { flights = without_flight n old.flights }) (number_of_found c.args.number old.flights f found) in
    record {
      leaves = left;
      gives = (subst (λ (o : Option Flight). IsSome o) (sym found) refl, ap (lane_of g.D.PageDevice.held) left);
    }
