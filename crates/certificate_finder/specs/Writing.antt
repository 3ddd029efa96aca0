-- The writes of a history, and which of them ends first after a call.
use Rattle.std.specs.Prelude.{◌≡◌, ℕ, ◌+◌, ◌*◌, ◌^◌, ◌<◌, ◌≤◌, List, All, Contains, length, slice_get, Some, Option, MatchOption}
use Rattle.std.specs.List.Sorted.{IsNonDecreasingBy}
use Rattle.certificate_finder.specs.declared.numbered_call.NumberedCall.{NumberedCall}
use Rattle.certificate_finder.specs.declared.write.Write.{Write}
use Rattle.certificate_finder.specs.Lists.{Lists}
use Rattle.trace_file.specs.Kinds.{IsWriting}

-- a write is what its call is
pub record TellsWrite (position : ℕ) (step : NumberedCall) (write : Write) : Type 0 where
  pub is_at : write.position ≡ position
  pub key : write.key ≡ step.key
  pub start : write.start ≡ step.start
  pub end : write.end ≡ step.end

-- the call writes
abbrev pub Writing : NumberedCall → Type 0
Writing step = IsWriting step.kind

-- the rank of a stamp among those of all keys: by keys, then by stamps
abbrev pub key_rank : ℕ → ℕ → ℕ
key_rank key stamp = key * 2 ^ 64 + stamp

abbrev pub write_rank : Write → ℕ
write_rank write = key_rank write.key write.start

-- the writes, by keys and starts
pub record AreWrites (steps : List NumberedCall) (writes : List Write) : Type 0 where
  pub lists : Lists steps Writing TellsWrite (length steps) writes
  pub sorted : IsNonDecreasingBy write_rank writes
  pub fit : All (λ write. write.start < 2 ^ 64) writes

-- of the writes of a key from an index on, the one at another index ends first
pub record EndsFirst (writes : List Write) (index best : ℕ) : Type 0 where
  pub write : Write
  pub first : Write
  pub at : slice_get writes index ≡ Some write
  pub best_at : slice_get writes best ≡ Some first
  pub later : index ≤ best
  pub key : first.key ≡ write.key
  pub least : (k : ℕ) (other : Write) → index ≤ k → slice_get writes k ≡ Some other → other.key ≡ write.key → first.end ≤ other.end

-- for each write from an index on, the index of the one that ends first
pub record AreSoonest (writes : List Write) (from : ℕ) (soonest : List ℕ) : Type 0 where
  pub count : length soonest ≡ length writes
  pub each : (k best : ℕ) → from ≤ k → slice_get soonest k ≡ Some best → EndsFirst writes k best

-- of the writes of a key that start after a stamp, this one ends first
pub record IsSoonest (writes : List Write) (key end : ℕ) (first : Write) : Type 0 where
  pub listed : Contains writes first
  pub of_key : first.key ≡ key
  pub behind : end < first.start
  pub least : All (λ write. write.key ≡ key → end < write.start → first.end ≤ write.end) writes

-- of the writes of a key that start after a stamp the one that ends first, if there are such
abbrev pub IsFirstOver : List Write → ℕ → ℕ → Option Write → Type 0
IsFirstOver writes key end first = MatchOption first (All (λ write. write.key ≡ key → ¬ (end < write.start)) writes) (IsSoonest writes key end)

-- an index parts items by a rank: those before it are at most the limit, the others above it
pub record IsSplit {X : Type 0} (rank : X → ℕ) (items : List X) (limit index : ℕ) : Type 0 where
  pub bound : index ≤ length items
  pub low : (k : ℕ) (item : X) → k < index → slice_get items k ≡ Some item → rank item ≤ limit
  pub high : (k : ℕ) (item : X) → index ≤ k → slice_get items k ≡ Some item → limit < rank item

-- an index parts items by a rank: those before it are below the limit, the others are not
pub record IsSplitBelow {X : Type 0} (rank : X → ℕ) (items : List X) (limit index : ℕ) : Type 0 where
  pub bound : index ≤ length items
  pub low : (k : ℕ) (item : X) → k < index → slice_get items k ≡ Some item → rank item < limit
  pub high : (k : ℕ) (item : X) → index ≤ k → slice_get items k ≡ Some item → limit ≤ rank item
