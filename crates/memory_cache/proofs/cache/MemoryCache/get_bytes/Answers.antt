use Rattle.std.proofs.Common.{◌∙◌, ap, refl}
use Rattle.memory_cache.specs.MemoryList.{MemoryList, value_in, after_get}
use Rattle.memory_cache.specs.Entries.{memory_of}
use Rattle.memory_cache.proofs.Finding.{value_found}
use Rattle.memory_cache.proofs.Ordering.{get_after}
use Rattle.memory_cache.proofs.cache.MemoryCache.get_bytes.Goals as goal

pub returns : goal.returns
returns c =
    let objects = c.self.inside.objects in
    let key = c.args.key.now in
    let after = ap memory_of c.get.follows.holds-at-none ∙ get_after key objects c.know_valid.ensures.0 ∙ ap (after_get key) c.self.view_is in (
      (refl, λ _. tt, after),
      record {
        raised = tt;
        value = c.get.ensures.value ∙ value_found key objects.entries ∙ ap (λ (m : MemoryList). value_in key m.pairs) c.self.view_is;
      },
    )
