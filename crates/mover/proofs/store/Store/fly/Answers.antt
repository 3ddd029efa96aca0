use Rattle.std.proofs.Common.{◌≡◌, ◌<◌, List, [], ◌∷◌, ◌++◌, length, false, sym, ap, subst, arith, ◌+◌}
use Rattle.std.specs.Prelude.{IsTrue}
use Rattle.klog.specs.Log.{Shape}
use Rattle.mover.specs.Flight.{Flight, most_flights, is_any, sets_in_flight, AreOfSet}
use Rattle.mover.specs.Store.{StoreState, IsStore, most_moves}
use Rattle.std.proofs.lemmas.List.Elements.{All-push}
use Rattle.mover.proofs.public_laws.Keeping.{kept_flights}
use Rattle.mover.proofs.public_laws.FlightLists.{flights_more}
use Rattle.mover.proofs.Flying.{flies_anew}
use Rattle.mover.proofs.store.Store.fly.Goals as goal

pub invariant_of-self : goal.invariant_of-self
invariant_of-self g c =
    let s = c.self.inside in
    let d = g.D.PageDevice in
    let moving = c.args.moving in
    let old : StoreState g.row.D.Denot = record { layout = s.layout; device = s.device; memory = s.memory; log = s.log; sets = s.sets; flights = s.flights; moves = s.moves } in
    let room : s.moves < most_moves = subst (λ (x : StoreState g.row.D.Denot). x.moves < most_moves) (sym c.self.view_is) c.requires.room in
    let set = subst (λ n. moving.set < n) (sym (ap (λ (h : Shape). h.sets) c.self.invariant.shape)) (subst (λ (x : StoreState g.row.D.Denot). moving.set < x.layout.sets) (sym c.self.view_is) c.requires.set) in
    let number = subst (λ (x : StoreState g.row.D.Denot). moving.number ≡ x.moves + 1) (sym c.self.view_is) c.requires.number in
    let f : Flight = record { moving = moving; marks = c.in_ok-marks.marks } in
    let free : length s.flights < most_flights = subst (λ (x : StoreState g.row.D.Denot). length x.flights < most_flights) (sym c.self.view_is) c.requires.free in
    let apart : is_any moving.set (sets_in_flight s.flights) ≡ false = subst (λ (x : StoreState g.row.D.Denot). is_any moving.set (sets_in_flight x.flights) ≡ false) (sym c.self.view_is) c.requires.apart in
    let placed : IsTrue (d.honest s.device) → AreOfSet s.log.shape moving = subst (λ (x : StoreState g.row.D.Denot). IsTrue (d.honest x.device) → AreOfSet x.log.shape moving) (sym c.self.view_is) c.requires.placed in
    subst (λ (fs : List Flight). IsStore g.row.PAGE d.page_count d.honest d.held (record old { flights = fs; moves = s.moves + 1 })) (sym c.push.ensures)
    (kept_flights g.row.PAGE d.page_count d.honest d.held old c.self.invariant (s.flights ++ f ∷ []) (s.moves + 1) (omega (arith, room))
    (flights_more s.log.shape s.moves s.flights f c.self.invariant.flights free (flies_anew s.log.shape s.moves moving c.in_ok-marks.marks set number c.requires.few (c.in_ok-marks.ensures s.log.shape)) number apart)
    (λ is. All-push (λ (g : Flight). AreOfSet s.log.shape g.moving) s.flights f (c.self.invariant.flights_placed is) (placed is)))
