-- What the memory ends as, once a reference into it has ended.
use Rattle.std.specs.Prelude.{◌≡◌, ⊤}
use Rattle.std.specs.Borrow.{Fml, MutBor, follows_so}
use mathlib.Core.Option.{none}
use Rattle.memory_cache.specs.MemoryList.{MemoryList}
use Rattle.memory_cache.specs.contracts.cache.MemoryCache.{the_row}

-- it has these pairs and this capacity
abbrev pub EndsAs : MutBor MemoryList → MemoryList → Fml
EndsAs memory list = follows_so the_row the_row memory.ghost_name none (λ _ _. ⊤) (λ n. n ≡ list)
