use Rattle.std.proofs.Common.{◌∙◌, ap}
use Rattle.memory_cache.specs.MemoryList.{MemoryList, value_in}
use Rattle.memory_cache.proofs.Finding.{value_found}
use Rattle.memory_cache.proofs.cache.MemoryCache.peek_bytes.Goals as goal

pub returns : goal.returns
returns c = c.peek.ensures ∙ value_found c.args.key.now c.self.inside.objects.entries ∙ ap (λ (m : MemoryList). value_in c.args.key.now m.pairs) c.self.view_is
