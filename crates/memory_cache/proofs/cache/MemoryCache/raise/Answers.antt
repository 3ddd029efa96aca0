use Rattle.std.proofs.Common.{◌∙◌, ap}
use Rattle.memory_cache.specs.MemoryList.{after_get}
use Rattle.memory_cache.specs.Entries.{memory_of}
use Rattle.memory_cache.proofs.Ordering.{get_after}
use Rattle.memory_cache.proofs.cache.MemoryCache.raise.Goals as goal

pub returns : goal.returns
returns c =
    let objects = c.self.inside.objects in
    let key = c.args.key.now in
    ap memory_of c.promote-held.ensures.entries ∙ get_after key objects c.know_valid.ensures.0 ∙ ap (after_get key) c.self.view_is
