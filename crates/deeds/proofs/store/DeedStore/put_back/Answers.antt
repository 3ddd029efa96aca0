-- The store after a copy was put back.
use Rattle.std.proofs.Common.{◌≡◌, Some, sym, ap, subst, ◌∙◌}
use Rattle.std.specs.Prelude.{IsTrue}
use Rattle.certificate_checker.specs.Current.{current}
use Rattle.mover.specs.Lane.{LaneState, lane_of}
use Rattle.mover.proofs.public_laws.PutBackLaws.{put_back_remembers}
use Rattle.deeds.specs.Asked.{Asked}
use Rattle.deeds.proofs.Serves.{served_put_back}
use Rattle.deeds.proofs.store.DeedStore.put_back.Goals as goal

pub invariant_of-self : goal.invariant_of-self
invariant_of-self g c =
    let d = g.D.PageDevice in
    let old : Asked g.row.D.Denot = record { store = c.self.inside.store; deeds = c.self.inside.trail.deeds } in
    let p = c.args.pair.now in
    let new = c.put_back.new.self in
    let gives = c.put_back.ensures.gives in
    let has = subst (λ (s : Asked g.row.D.Denot). IsTrue (d.honest s.store.device) → current s.deeds p.key ≡ Some p.value) (sym c.self.view_is) c.requires.current in
    served_put_back d.honest d.held old c.self.invariant new (ap d.honest c.put_back.ensures.device) p has
    (ap (λ (l : LaneState). l.memory) gives.1 ∙ put_back_remembers g.row.PAGE p (lane_of d.held old.store))
    (λ is. c.put_back_shows.ensures g.row.PAGE p (lane_of d.held old.store) (lane_of d.held new) c.put_back.result (c.self.invariant.order is) gives)
