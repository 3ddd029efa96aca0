use Rattle.std.proofs.Common.{refl, sym, ap, subst}
use Rattle.memory_cache.specs.MemoryList.{MemoryList}
use Rattle.kset.specs.Laws.{AreOfTheirSets}
use Rattle.mover.specs.Store.{IsSmall}
use Rattle.mover.proofs.public_laws.Keeping.{kept_memory, kept_log_read, kept_set_read, all_fronted}
use Rattle.mover.proofs.store.Store.touch.Goals as goal

pub invariant_of-self : goal.invariant_of-self
invariant_of-self g c =
    let s = c.self.inside in
    let d = g.D.PageDevice in
    kept_memory g.row.PAGE d.page_count d.honest d.held (record { layout = s.layout; device = s.device; memory = s.memory; log = s.log; sets = s.sets; flights = s.flights; moves = s.moves }) c.self.invariant c.raise.new.self
    (ap (λ (m : MemoryList). m.capacity) c.raise.ensures) (all_fronted (IsSmall g.row.PAGE) s.memory c.raise.new.self c.args.key.now c.raise.ensures c.self.invariant.small)

pub invariant_of-self-in-Log : goal.invariant_of-self-in-Log
invariant_of-self-in-Log g c =
    let s = c.self.inside in
    let d = g.D.PageDevice in
    kept_log_read g.row.PAGE d.page_count d.honest d.held (record { layout = s.layout; device = s.device; memory = s.memory; log = s.log; sets = s.sets; flights = s.flights; moves = s.moves }) c.self.invariant s.device c.touch.new.self
    c.touch.ensures.shape refl refl (λ is. refl) (λ is. c.touch.ensures.spelled (d.held s.device))

pub invariant_of-self-in-Set : goal.invariant_of-self-in-Set
invariant_of-self-in-Set g c =
    let s = c.self.inside in
    let d = g.D.PageDevice in
    let new = c.touch-in-Set.ensures in
    kept_set_read g.row.PAGE d.page_count d.honest d.held (record { layout = s.layout; device = s.device; memory = s.memory; log = s.log; sets = s.sets; flights = s.flights; moves = s.moves }) c.self.invariant s.device c.touch-in-Set.new.self
    new.sizes refl refl (λ is. refl) (λ is. new.spelled (d.held s.device)) (λ is placed. subst (AreOfTheirSets s.log.shape.lanes s.log.shape.sets) (sym (new.shown (d.held s.device))) placed)
