use Rattle.std.proofs.Common.{◌≡◌, Some, Contains, rules, sym, ap, subst, ◌∙◌}
use Rattle.std.specs.Prelude.{IsTrue, slice_get}
use Rattle.std.proofs.lemmas.List.Elements.{All-contains}
use Rattle.mover.specs.Store.{StoreState}
use Rattle.mover.specs.Lane.{lane_of}
use Rattle.mover.specs.Flight.{Flight, flight_of, IsFlightOf, AreOfSet}
use Rattle.mover.specs.Job.{job_of}
use Rattle.mover.specs.Commit.{IsFitting, landed, landed_in}
use Rattle.mover.proofs.public_laws.Listing.{got}
use Rattle.mover.proofs.public_laws.Showing.{some_same}
use Rattle.mover.proofs.Ending.{landed_committed, commit_answers, commit_leaves, commit_gives}
use Rattle.mover.proofs.store.Store.move_commit.Goals as goal

pub is_fitting-requires-clause-page_size : goal.is_fitting-requires-clause-page_size
is_fitting-requires-clause-page_size g c = c.layout-layout.ensures.kept.page_size

pub is_fitting-requires-clause-few : goal.is_fitting-requires-clause-few
is_fitting-requires-clause-few g c =
    let s = c.self.inside in
    (All-contains (IsFlightOf s.log.shape s.moves) s.flights c.at.result.now c.self.invariant.flights.each (got s.flights c.in-Some.at c.at.result.now c.at.ensures)).few

pub land-requires : goal.land-requires
land-requires g c =
    let d = g.D.PageDevice in
    let old = c.args.self.now in
    let f : Flight = c.take_flight-flight.result in
    let kept = c.layout-layout.ensures.kept in
    let taken = c.take_flight-flight.ensures.taken in
    let was : slice_get old.flights c.in-Some.at ≡ Some f = c.take_flight-flight.ensures.was in
    let seen : slice_get old.flights c.in-Some.at ≡ Some c.at.result.now = subst (λ (x : StoreState g.row.D.Denot). slice_get x.flights c.in-Some.at ≡ Some c.at.result.now) c.self.view_is c.at.ensures in
    let listed : Contains old.flights f = got old.flights c.in-Some.at f was in
    let its : IsFlightOf old.log.shape old.moves f = All-contains (IsFlightOf old.log.shape old.moves) old.flights f kept.flights.each listed in
    let placed : IsTrue (d.honest old.device) → AreOfSet old.log.shape f.moving = λ is. All-contains (λ (x : Flight). AreOfSet old.log.shape x.moving) old.flights f (kept.flights_placed is) listed in
    let fits : IsTrue c.is_fitting.result = search rules in (
      search rules,
      (
        subst (λ (x : StoreState g.row.D.Denot). IsFlightOf x.log.shape x.moves f) (sym taken) its,
        (
          subst (λ (x : StoreState g.row.D.Denot). IsTrue (d.honest x.device) → AreOfSet x.log.shape f.moving) (sym taken) placed,
          subst (λ (x : Flight). IsFitting (job_of g.row.PAGE x.moving) c.args.plan.now) (some_same (sym seen ∙ was)) (c.is_fitting.ensures.0 fits),
        ),
      ),
    )

pub returns : goal.returns
returns g c =
    let d = g.D.PageDevice in
    let old = c.args.self.now in
    let f : Flight = c.take_flight-flight.result in
    let taken = c.take_flight-flight.ensures.taken in
    let was : slice_get old.flights c.in-Some.at ≡ Some f = c.take_flight-flight.ensures.was in
    let seen : slice_get old.flights c.in-Some.at ≡ Some c.at.result.now = subst (λ (x : StoreState g.row.D.Denot). slice_get x.flights c.in-Some.at ≡ Some c.at.result.now) c.self.view_is c.at.ensures in
    let flies : flight_of c.args.number old.flights ≡ Some f =
    subst (λ (x : StoreState g.row.D.Denot). flight_of c.args.number x.flights ≡ slice_get x.flights c.in-Some.at) c.self.view_is c.in-Some.ensures.found ∙ was in
    let passes : IsTrue c.is_fitting.result = search rules in
    let fits : IsFitting (job_of g.row.PAGE f.moving) c.args.plan.now = subst (λ (x : Flight). IsFitting (job_of g.row.PAGE x.moving) c.args.plan.now) (some_same (sym seen ∙ was)) (c.is_fitting.ensures.0 passes) in
    record {
      honesty = search rules;
      faults = search rules;
      answers = commit_answers g.row.PAGE c.args.plan.now c.args.number old.flights c.land.result c.committed_by.result c.committed_by.ensures (record { its = f; flies = flies; fits = fits });
      leaves =
          commit_leaves c.args.plan.now c.args.number old c.land.new.self c.land.result c.committed_by.result c.committed_by.ensures (record {
            its = f;
            flies = flies;
            left = c.land.ensures.leaves ∙ ap (λ (x : StoreState g.row.D.Denot). landed_in f c.args.plan.now c.land.result x c.land.new.self.device) taken;
          });
      gives = λ is.
          commit_gives g.row.PAGE c.args.plan.now c.args.number (lane_of d.held old) (lane_of d.held c.land.new.self) c.land.result c.committed_by.result c.committed_by.ensures (record {
            its = f;
            flies = flies;
            fits = fits;
            ended = c.land.ensures.gives (ap (λ (x : StoreState g.row.D.Denot). d.honest x.device) taken ∙ is) ∙ ap (λ (x : StoreState g.row.D.Denot). landed f c.args.plan.now c.land.result (lane_of d.held x)) taken ∙ landed_committed f c.args.plan.now c.land.result (lane_of d.held old);
          });
    }
