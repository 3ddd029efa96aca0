use Rattle.std.proofs.Common.{sym, subst}
use Rattle.std.specs.Prelude.{IsTrue}
use Rattle.mover.specs.Store.{StoreState}
use Rattle.mover.specs.Lane.{lane_of}
use Rattle.mover.specs.Visible.{IsPlaced}
use Rattle.mover.specs.Laws.{IsInOrder}
use Rattle.mover.proofs.public_laws.WholeLaws.{stores_law}
use Rattle.mover.proofs.store.Store.layout.Goals as goal

pub returns-clause-order : goal.returns-clause-order
returns-clause-order g c = λ is.
    let s = c.self.inside in
    let d = g.D.PageDevice in
    let on = subst (λ (x : StoreState g.row.D.Denot). IsTrue (d.honest x.device)) (sym c.self.view_is) is in
    let old : StoreState g.row.D.Denot = record { layout = s.layout; device = s.device; memory = s.memory; log = s.log; sets = s.sets; flights = s.flights; moves = s.moves } in
    let placed : IsPlaced (lane_of d.held old) = record {
      log = c.len-live.ensures.placed g.row.PAGE (d.held s.device) (c.self.invariant.log_spelled on);
      sets = c.self.invariant.sets_placed on;
      flight = c.self.invariant.flights_placed on;
    } in
    subst (λ (x : StoreState g.row.D.Denot). IsInOrder (lane_of d.held x)) c.self.view_is (stores_law (lane_of d.held old) placed c.self.invariant.flights)
