use Rattle.std.proofs.Common.{rules, ap}
use Rattle.memory_cache.specs.MemoryList.{MemoryList}
use Rattle.mover.proofs.public_laws.Keeping.{kept_memory, small_removed}
use Rattle.mover.proofs.store.Store.remove_bytes.Goals as goal

pub invariant_of-self : goal.invariant_of-self
invariant_of-self g c =
    let s = c.self.inside in
    let d = g.D.PageDevice in
    kept_memory g.row.PAGE d.page_count d.honest d.held (record { layout = s.layout; device = s.device; memory = s.memory; log = s.log; sets = s.sets; flights = s.flights; moves = s.moves }) c.self.invariant
    c.remove_bytes.new.self (ap (λ (m : MemoryList). m.capacity) c.remove_bytes.ensures.after)
    (small_removed g.row.PAGE s.memory c.remove_bytes.new.self c.args.key.now c.remove_bytes.ensures.after c.self.invariant.small)

pub returns : goal.returns
returns g c = search rules
