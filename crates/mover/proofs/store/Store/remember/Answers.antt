use Rattle.std.proofs.Common.{ap}
use Rattle.memory_cache.specs.MemoryList.{MemoryList}
use Rattle.mover.specs.Store.{IsSmall}
use Rattle.mover.proofs.public_laws.Keeping.{kept_memory}
use Rattle.mover.proofs.Putting.{all_put, out_of_put}
use Rattle.mover.proofs.store.Store.remember.Goals as goal

pub invariant_of-self-2 : goal.invariant_of-self-2
invariant_of-self-2 g c =
    let s = c.self.inside in
    let d = g.D.PageDevice in
    kept_memory g.row.PAGE d.page_count d.honest d.held (record { layout = s.layout; device = s.device; memory = s.memory; log = s.log; sets = s.sets; flights = s.flights; moves = s.moves }) c.self.invariant
    c.put.new.self (ap (λ (m : MemoryList). m.capacity) c.in-Ok.ensures.after)
    (all_put (IsSmall g.row.PAGE) s.memory c.put.new.self (record { key = c.args.key; value = c.args.value }) c.in-Ok.ensures.after c.requires c.self.invariant.small)

pub returns-clause-small : goal.returns-clause-small
returns-clause-small g c =
    out_of_put (IsSmall g.row.PAGE) c.self.inside.memory (record { key = c.args.key; value = c.args.value }) c.in-Ok.out c.in-Ok.ensures.out c.requires c.self.invariant.small
