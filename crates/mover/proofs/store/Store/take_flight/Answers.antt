use Rattle.std.proofs.Common.{◌≡◌, List, Some, eqb, not, sym, ap, subst, ◌∙◌}
use Rattle.std.specs.Prelude.{slice_get}
use Rattle.std.proofs.lemmas.List.Elements.{All-filter}
use Rattle.mover.specs.Flight.{Flight, flight_of, without_flight, AreOfSet}
use Rattle.mover.specs.Store.{StoreState, IsStore}
use Rattle.mover.proofs.public_laws.FlightLists.{found_at, removed_without, flights_left}
use Rattle.mover.proofs.public_laws.Keeping.{kept_flights}
use Rattle.mover.proofs.store.Store.take_flight.Goals as goal

pub invariant_of-self : goal.invariant_of-self
invariant_of-self g c =
    let s = c.self.inside in
    let d = g.D.PageDevice in
    let is = c.self.invariant in
    let n = c.take.result.moving.number in
    let old : StoreState g.row.D.Denot = record { layout = s.layout; device = s.device; memory = s.memory; log = s.log; sets = s.sets; flights = s.flights; moves = s.moves } in
    let left : c.take.new.self ≡ without_flight n s.flights = c.take.ensures.left ∙ removed_without s.flights c.args.at c.take.result c.take.ensures.its is.flights.rising in
    subst (λ (fs : List Flight). IsStore g.row.PAGE d.page_count d.honest d.held (record old { flights = fs })) (sym left)
    (kept_flights g.row.PAGE d.page_count d.honest d.held old is (without_flight n s.flights) s.moves is.numbered (flights_left s.log.shape s.moves n s.flights is.flights)
    (λ honest. All-filter (λ (f : Flight). not (eqb f.moving.number n)) (λ (f : Flight). AreOfSet s.log.shape f.moving) s.flights (is.flights_placed honest)))

pub returns-clause-was : goal.returns-clause-was
returns-clause-was g c = subst (λ (x : StoreState g.row.D.Denot). slice_get x.flights c.args.at ≡ Some c.take.result) c.self.view_is c.take.ensures.its

pub returns-clause-found : goal.returns-clause-found
returns-clause-found g c =
    subst (λ (x : StoreState g.row.D.Denot). flight_of c.take.result.moving.number x.flights ≡ Some c.take.result) c.self.view_is
    (found_at c.self.inside.flights c.args.at c.take.result c.take.ensures.its c.self.invariant.flights.rising)

pub returns-clause-taken : goal.returns-clause-taken
returns-clause-taken g c =
    let s = c.self.inside in
    let n = c.take.result.moving.number in
    let left : c.take.new.self ≡ without_flight n s.flights = c.take.ensures.left ∙ removed_without s.flights c.args.at c.take.result c.take.ensures.its c.self.invariant.flights.rising in
    (λ i. record { layout = s.layout; device = s.device; memory = s.memory; log = s.log; sets = s.sets; flights = left i; moves = s.moves })
    ∙ ap (λ (x : StoreState g.row.D.Denot). record x { flights = without_flight n x.flights }) c.self.view_is
