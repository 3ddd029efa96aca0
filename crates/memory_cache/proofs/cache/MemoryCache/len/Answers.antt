use Rattle.std.proofs.Common.{subst, arith}
use Rattle.std.proofs.lemmas.List.{length-map}
use Rattle.memory_cache.specs.MemoryList.{IsBounded}
use Rattle.memory_cache.specs.Entries.{pair_of, memory_of}
use Rattle.memory_cache.proofs.Finding.{apart}
use Rattle.memory_cache.proofs.cache.MemoryCache.len.Goals as goal

pub returns-clause-bounded : goal.returns-clause-bounded
returns-clause-bounded c =
    let objects = c.self.inside.objects in
    let count = length-map objects.entries pair_of in
    let bounded : IsBounded (memory_of objects) = record {
      distinct = apart objects.entries c.len.ensures.valid.0;
      within = omega (arith, count, c.len.ensures.valid.1);
      roomy = omega (arith, c.len.ensures.valid.2);
    } in
    subst IsBounded c.self.view_is bounded
