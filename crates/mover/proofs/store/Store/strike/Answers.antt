use Rattle.std.proofs.Common.{List, map, refl, sym, subst, ap, ◌∙◌}
use Rattle.mover.specs.Store.{StoreState, IsStore}
use Rattle.mover.specs.Lane.{lane_of}
use Rattle.mover.specs.Strike.{struck_at}
use Rattle.mover.specs.Flight.{Flight, flight_struck}
use Rattle.mover.proofs.public_laws.Keeping.{kept_flash, kept_flights}
use Rattle.mover.proofs.public_laws.FlightLists.{flights_struck}
use Rattle.mover.proofs.Lanes.{lane_struck}
use Rattle.mover.proofs.Flying.{struck_placed}
use Rattle.kset.specs.Laws.{AreOfTheirSets}
use Rattle.kset.specs.Sets.{notes_of, has_place}
use Rattle.kset.specs.Shown.{visible_in}
use Rattle.mover.proofs.store.Store.strike.Goals as goal

pub invariant_of-self : goal.invariant_of-self
invariant_of-self g c =
    let s = c.self.inside in
    let d = g.D.PageDevice in
    let old : StoreState g.row.D.Denot = record { layout = s.layout; device = s.device; memory = s.memory; log = s.log; sets = s.sets; flights = s.flights; moves = s.moves } in
    let flash = kept_flash g.row.PAGE d.page_count d.honest d.held old c.self.invariant
    s.device c.strike.new.self c.strike-2.new.self c.strike.ensures.shape c.strike-2.ensures.sizes refl refl
    (λ honest. c.strike.ensures.spelled (d.held s.device)) (λ honest. c.strike-2.ensures.spelled (d.held s.device))
    (λ honest placed. subst (AreOfTheirSets s.log.shape.lanes s.log.shape.sets) (sym (c.strike-2.ensures.shown (d.held s.device)))
    (c.strikes_keep_sets.ensures s.log.shape.lanes s.log.shape.sets c.args.placed.now.set c.args.placed.now.hash (has_place s.sets) (notes_of s.sets c.args.placed.now.set) (visible_in (d.held s.device) s.sets) placed)) in
    subst (λ (fs : List Flight). IsStore g.row.PAGE d.page_count d.honest d.held (record old { log = c.strike.new.self; sets = c.strike-2.new.self; flights = fs })) (sym c.strike-3.ensures)
    (kept_flights g.row.PAGE d.page_count d.honest d.held (record old { log = c.strike.new.self; sets = c.strike-2.new.self }) flash (map (flight_struck c.args.placed.now.hash) s.flights) s.moves flash.numbered
    (flights_struck c.strike.new.self.shape s.moves c.args.placed.now.hash s.flights flash.flights)
    (λ is. struck_placed c.args.placed.now.hash c.strike.new.self.shape s.flights (flash.flights_placed is)))

pub returns-clause-struck : goal.returns-clause-struck
returns-clause-struck g c =
    let s = c.self.inside in
    let d = g.D.PageDevice in
    lane_struck d.held (record { layout = s.layout; device = s.device; memory = s.memory; log = s.log; sets = s.sets; flights = s.flights; moves = s.moves }) c.args.placed.now c.strike.new.self c.strike-2.new.self c.strike-3.new.self
    c.strike.ensures.struck (c.strike.ensures.shown (d.held s.device)) c.strike-2.ensures.struck (c.strike-2.ensures.shown (d.held s.device)) c.strike-3.ensures
    ∙ ap (λ (x : StoreState g.row.D.Denot). struck_at c.args.placed.now (lane_of d.held x)) c.self.view_is
