use Rattle.std.proofs.Common.{refl, sym, subst, rules}
use Rattle.std.specs.Prelude.{IsTrue}
use Rattle.mover.specs.Store.{StoreState}
use Rattle.mover.specs.Lane.{lane_of}
use Rattle.mover.specs.Flush.{LaneFlushes}
use Rattle.mover.proofs.public_laws.Keeping.{kept_flash, sets_framed, visible_framed, counted_alike}
use Rattle.mover.proofs.Putting.{lane_flushed}
use Rattle.kset.specs.Laws.{AreOfTheirSets}
use Rattle.mover.proofs.store.Store.flush_step.Goals as goal

pub invariant_of-self : goal.invariant_of-self
invariant_of-self g c =
    let s = c.self.inside in
    let d = g.D.PageDevice in
    let old : StoreState g.row.D.Denot = record { layout = s.layout; device = s.device; memory = s.memory; log = s.log; sets = s.sets; flights = s.flights; moves = s.moves } in
    let count = counted_alike g.row.PAGE d.page_count d.honest d.held old c.self.invariant in
    kept_flash g.row.PAGE d.page_count d.honest d.held old c.self.invariant
    c.flush_step.new.device c.flush_step.new.self s.sets c.flush_step.ensures.shape refl c.flush_step.ensures.writes.pages c.flush_step.ensures.writes.honest c.flush_step.ensures.spelled
    (λ is. sets_framed g.row.PAGE (d.held s.device) (d.held c.flush_step.new.device) s.sets (rw count (c.flush_step.ensures.apart is)))
    (λ is placed. subst (AreOfTheirSets s.log.shape.lanes s.log.shape.sets) (sym (visible_framed (d.held s.device) (d.held c.flush_step.new.device) s.sets (rw count (c.flush_step.ensures.apart is)))) placed)

pub returns : goal.returns
returns g c =
    let s = c.self.inside in
    let d = g.D.PageDevice in
    let old : StoreState g.row.D.Denot = record { layout = s.layout; device = s.device; memory = s.memory; log = s.log; sets = s.sets; flights = s.flights; moves = s.moves } in
    let new : StoreState g.row.D.Denot = record { layout = s.layout; device = c.flush_step.new.device; memory = s.memory; log = c.flush_step.new.self; sets = s.sets; flights = s.flights; moves = s.moves } in
    let count = counted_alike g.row.PAGE d.page_count d.honest d.held old c.self.invariant in
    record {
      rest = search rules;
      honesty = search rules;
      faults = search rules;
      flushes = search rules;
      gives = λ is.
          let on = subst (λ (x : StoreState g.row.D.Denot). IsTrue (d.honest x.device)) (sym c.self.view_is) is in
          subst (λ (x : StoreState g.row.D.Denot). LaneFlushes (lane_of d.held x) c.flush_step.result (lane_of d.held new)) c.self.view_is
          (lane_flushed d.held old c.flush_step.new.device c.flush_step.new.self c.flush_step.result c.flush_step.ensures.gives
          (rw count (c.flush_step.ensures.apart on)) (c.flush_step.ensures.shown on (c.self.invariant.log_spelled on)));
    }
