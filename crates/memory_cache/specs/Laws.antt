-- Laws of the pairs in memory.
use Rattle.std.specs.Prelude.{◌≡◌, ◌≢◌, ◌≤◌, ℕ, List, Bool, IsTrue, Some, All, Contains}
use Rattle.memory_cache.specs.declared.pair.Pair.{Pair}
use Rattle.memory_cache.specs.MemoryList.{MemoryList, IsBounded, value_in, after_put, pushed_out, leaving_for, after_get, after_remove}
use Rattle.record_pages.specs.declared.timed_value.TimedValue.{TimedValue}

-- each pair in memory passes a test
abbrev pub AllPass : (Pair → Bool) → MemoryList → Type 0
AllPass test list = All (λ p. IsTrue (test p)) list.pairs

-- if each pair passes a test, and one that is put does, each does after the put
abbrev pub PutKeepsAll : Type 0
PutKeepsAll = (test : Pair → Bool) (pair : Pair) (list : MemoryList) → IsTrue (test pair) → AllPass test list → AllPass test (after_put pair list)

-- if each pair passes a test, each does after a get
abbrev pub GetKeepsAll : Type 0
GetKeepsAll = (test : Pair → Bool) (key : List ℕ) (list : MemoryList) → AllPass test list → AllPass test (after_get key list)

-- if each pair passes a test, each does after a removal
abbrev pub RemoveKeepsAll : Type 0
RemoveKeepsAll = (test : Pair → Bool) (key : List ℕ) (list : MemoryList) → AllPass test list → AllPass test (after_remove key list)

-- a put leaves distinct keys, as many as there may be
abbrev pub PutKeepsBounds : Type 0
PutKeepsBounds = (pair : Pair) (list : MemoryList) → IsBounded list → IsBounded (after_put pair list)

-- a get leaves distinct keys, as many as there may be
abbrev pub GetKeepsBounds : Type 0
GetKeepsBounds = (key : List ℕ) (list : MemoryList) → IsBounded list → IsBounded (after_get key list)

-- a removal leaves distinct keys, as many as there may be
abbrev pub RemoveKeepsBounds : Type 0
RemoveKeepsBounds = (key : List ℕ) (list : MemoryList) → IsBounded list → IsBounded (after_remove key list)

-- the value that a key has is held under it
abbrev pub FoundIsHeld : Type 0
FoundIsHeld = (key : List ℕ) (value : TimedValue) (list : MemoryList) → value_in key list.pairs ≡ Some value → Contains list.pairs (record { key = key; value = value })

-- a pair that a put pushes out was held, under another key than that of the pair that was put
abbrev pub PushedOutWasHeld : Type 0
PushedOutWasHeld = (pair out : Pair) (list : MemoryList) → 1 ≤ list.capacity → pushed_out pair list ≡ Some out → Contains list.pairs out × (out.key ≢ pair.key)

-- a put pushes out the pair that leaves for its key
abbrev pub PushedOutIsLeaving : Type 0
PushedOutIsLeaving = (pair : Pair) (list : MemoryList) → IsBounded list → pushed_out pair list ≡ leaving_for pair.key list
