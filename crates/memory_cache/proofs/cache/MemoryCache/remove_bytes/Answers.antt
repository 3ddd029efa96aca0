use Rattle.std.proofs.Common.{◌∙◌, ap}
use Rattle.memory_cache.specs.MemoryList.{MemoryList, value_in, holding, after_remove}
use Rattle.memory_cache.specs.Entries.{memory_of}
use Rattle.memory_cache.proofs.Finding.{value_found, removed}
use Rattle.memory_cache.proofs.cache.MemoryCache.remove_bytes.Goals as goal

pub returns-clause-value : goal.returns-clause-value
returns-clause-value c = c.pop.ensures.value ∙ value_found c.args.key.now c.self.inside.objects.entries ∙ ap (λ (m : MemoryList). value_in c.args.key.now m.pairs) c.self.view_is

pub returns-clause-after : goal.returns-clause-after
returns-clause-after c =
    let objects = c.self.inside.objects in
    ap memory_of c.pop.ensures.entries
    ∙ ap (holding (memory_of objects)) (removed c.args.key.now objects.entries c.know_valid.ensures.0)
    ∙ ap (after_remove c.args.key.now) c.self.view_is
