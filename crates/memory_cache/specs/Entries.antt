-- The entries of a map of bounded size, as pairs in memory.
use Rattle.std.specs.Prelude.{ℕ, Bool, false, List, map, slice_get}
use Rattle.std.specs.Option.{option_map_or}
use Rattle.std.specs.Str.{bytes_eq}
use Rattle.lru.specs.LruCache.{LruCache}
use Rattle.memory_cache.specs.declared.pair.Pair.{Pair}
use Rattle.memory_cache.specs.MemoryList.{MemoryList}
use Rattle.record_pages.specs.declared.timed_value.TimedValue.{TimedValue}

-- an entry as a pair
abbrev pub pair_of : List ℕ × TimedValue → Pair
pair_of entry = record { key = entry.0; value = entry.1 }

-- the map as a list of pairs
abbrev pub memory_of : LruCache (List ℕ) TimedValue → MemoryList
memory_of cache = record { capacity = cache.cap; pairs = map pair_of cache.entries }

-- whether the most recent entry has this key
abbrev pub is_first : List ℕ → List (List ℕ × TimedValue) → Bool
is_first key entries = option_map_or (λ entry. bytes_eq entry.0 key) (slice_get entries 0) false
