-- The pairs in memory: a list with distinct keys, the most recent first, of at most this many pairs.
use Rattle.std.specs.Prelude.{◌≢◌, ℕ, ◌-◌, ◌≤◌, ◌||◌, List, [], ◌∷◌, length, take, filter, find, not, nat_lt, is_some, slice_get, AllPairs, Option, option_map, Some, None, if◌then◌else◌}
use Rattle.std.specs.Str.{bytes_eq}
use Rattle.memory_cache.specs.declared.pair.Pair.{Pair}
use Rattle.record_pages.specs.declared.timed_value.TimedValue.{TimedValue}

-- the pairs, the most recent first, and how many there may be
pub record MemoryList : Type 0 where
  pub capacity : ℕ
  pub pairs : List Pair

-- what is true of the pairs in memory
pub record IsBounded (list : MemoryList) : Type 0 where
  -- no two pairs have the same key
  pub distinct : AllPairs (λ a b. a.key ≢ b.key) list.pairs
  -- there are at most as many as the capacity
  pub within : length list.pairs ≤ list.capacity
  -- there may be one
  pub roomy : 1 ≤ list.capacity

-- the same capacity, with these pairs
abbrev pub holding : MemoryList → List Pair → MemoryList
holding list pairs = record { capacity = list.capacity; pairs = pairs }

-- the pairs of the other keys
abbrev pub without : List ℕ → List Pair → List Pair
without key pairs = filter (λ p. not (bytes_eq key p.key)) pairs

-- the key's pair, if there is one
abbrev pub pair_in : List ℕ → List Pair → Option Pair
pair_in key pairs = find (λ p. bytes_eq key p.key) pairs

-- the key's value, if there is one
abbrev pub value_in : List ℕ → List Pair → Option TimedValue
value_in key pairs = option_map (λ p. p.value) (pair_in key pairs)

-- the pair goes first, and an older one of its key goes
abbrev pub entered : Pair → List Pair → List Pair
entered pair pairs = pair ∷ without pair.key pairs

-- the pair that was found comes to the front
abbrev pub to_front_by : Option Pair → List Pair → List Pair
to_front_by None pairs = pairs
to_front_by (Some pair) pairs = entered pair pairs

-- the key's pair, if there is one, comes to the front
abbrev pub to_front : List ℕ → List Pair → List Pair
to_front key pairs = to_front_by (pair_in key pairs) pairs

-- an empty memory
abbrev pub empty : ℕ → MemoryList
empty capacity = record { capacity = capacity; pairs = [] }

-- after a put: the pair goes first, an older one of its key goes, and only so many stay
abbrev pub after_put : Pair → MemoryList → MemoryList
after_put pair list = holding list (take list.capacity (entered pair list.pairs))

-- the pair for which a put has no room: the one past the capacity
abbrev pub pushed_out : Pair → MemoryList → Option Pair
pushed_out pair list = slice_get (entered pair list.pairs) list.capacity

-- the pair that was used least recently
abbrev pub last_pair : List Pair → Option Pair
last_pair pairs = slice_get pairs (length pairs - 1)

-- the pair that leaves for one of this key: none if the key has a pair or there is room, else the one that was used least recently
abbrev pub leaving_for : List ℕ → MemoryList → Option Pair
leaving_for key list = if is_some (value_in key list.pairs) || nat_lt (length list.pairs) list.capacity then None else last_pair list.pairs

-- after a get: the key's pair is the most recent
abbrev pub after_get : List ℕ → MemoryList → MemoryList
after_get key list = holding list (to_front key list.pairs)

-- after a removal: the key has no pair
abbrev pub after_remove : List ℕ → MemoryList → MemoryList
after_remove key list = holding list (without key list.pairs)
