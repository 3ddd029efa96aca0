-- The puts of a history, and which of them a hit can have read.
use Rattle.std.specs.Prelude.{◌≡◌, ◌≢◌, ℕ, ◌+◌, ◌*◌, ◌^◌, ◌<◌, ◌≤◌, List, All, AllPairs, length, slice_get, Some, None, Option, MatchOption, IsTrue}
use Rattle.std.specs.Option.{option_map_or}
use Rattle.std.specs.List.Sorted.{IsNonDecreasingBy}
use Rattle.record_pages.specs.Expiry.{is_live}
use Rattle.trace_file.specs.declared.call_kind.CallKind.TheVariants as kinds
use Rattle.certificate_finder.specs.declared.put.Put.{Put}
use Rattle.certificate_finder.specs.declared.numbered_call.NumberedCall.{NumberedCall}
use Rattle.certificate_finder.specs.declared.write.Write.{Write}
use Rattle.certificate_finder.specs.Lists.{Lists}
use Rattle.trace_file.specs.Kinds.{IsWriting}

-- a write of a call's key starts after the call's end
pub record IsOver (step other : NumberedCall) : Type 0 where
  pub writes : IsWriting other.kind
  pub key : other.key ≡ step.key
  pub behind : step.end < other.start

-- the write at a position is over a call, and ends then
pub record EndsOver (steps : List NumberedCall) (step : NumberedCall) (dead position : ℕ) : Type 0 where
  pub other : NumberedCall
  pub at : slice_get steps position ≡ Some other
  pub over : IsOver step other
  pub end : other.end ≡ dead

-- the least end of the writes over a call, which this one has, or the greatest stamp if there is none
pub record IsDead (steps : List NumberedCall) (step : NumberedCall) (dead : ℕ) (over : Option ℕ) : Type 0 where
  pub least : (position : ℕ) (other : NumberedCall) → slice_get steps position ≡ Some other → IsOver step other → dead ≤ other.end
  pub by : MatchOption over (dead ≡ 18446744073709551615) (EndsOver steps step dead)

-- a put is what its call is
pub record TellsPut (steps : List NumberedCall) (position : ℕ) (step : NumberedCall) (put : Put) : Type 0 where
  pub is_at : put.position ≡ position
  pub key : put.key ≡ step.key
  pub value : put.value ≡ step.value
  pub start : put.start ≡ step.start
  pub expires : put.expires ≡ step.time
  pub dead : IsDead steps step put.dead put.over

-- the call puts
abbrev pub Putting : NumberedCall → Type 0
Putting step = step.kind ≡ kinds.Put

-- the rank of a stamp among those of all keys and values: by keys, then values, then stamps
abbrev pub value_rank : ℕ → ℕ → ℕ → ℕ
value_rank key value stamp = (key * 2 ^ 32 + value) * 2 ^ 64 + stamp

abbrev pub put_rank : Put → ℕ
put_rank put = value_rank put.key put.value put.start

-- the rank of the last stamp at which a put can be read
abbrev pub last_rank : Put → ℕ
last_rank put = value_rank put.key put.value put.dead

-- when the put at an index expires
abbrev pub expiry_at : List Put → ℕ → ℕ
expiry_at puts index = option_map_or (λ (put : Put). put.expires) (slice_get puts index) 0

-- a put's numbers are in their ranges
pub record IsFitPut (put : Put) : Type 0 where
  pub value : put.value < 2 ^ 32
  pub start : put.start < 2 ^ 64
  pub expires : put.expires < 2 ^ 64
  pub dead : put.dead < 2 ^ 64

-- puts by keys, values and starts, each once
pub record AreInOrder (puts : List Put) : Type 0 where
  pub sorted : IsNonDecreasingBy put_rank puts
  pub fit : All IsFitPut puts
  pub distinct : AllPairs (λ one other. one.position ≢ other.position) puts

-- the puts of a history
pub record ArePuts (steps : List NumberedCall) (puts : List Put) : Type 0 where
  pub lists : Lists steps Putting (TellsPut steps) (length steps) puts
  pub in_order : AreInOrder puts

-- a hit can have read a put, expiry aside
pub record CanRead (hit : NumberedCall) (put : Put) : Type 0 where
  pub key : put.key ≡ hit.key
  pub value : put.value ≡ hit.value
  pub begun : put.start ≤ hit.end
  pub stands : hit.start ≤ put.dead

-- a hit can have read the put at an index
pub record GivesAt (puts : List Put) (hit : NumberedCall) (index : ℕ) : Type 0 where
  pub put : Put
  pub at : slice_get puts index ≡ Some put
  pub reads : CanRead hit put
  pub live : IsTrue (is_live put.expires hit.time)

-- the put at a position, with the write that is over it, if there is one
pub record IsPut (position : ℕ) (step : NumberedCall) (over : Option Write) (put : Put) : Type 0 where
  pub is_at : put.position ≡ position
  pub key : put.key ≡ step.key
  pub value : put.value ≡ step.value
  pub start : put.start ≡ step.start
  pub expires : put.expires ≡ step.time
  pub is_over : MatchOption over ((put.over ≡ None) × (put.dead ≡ 18446744073709551615)) (λ write. (put.over ≡ Some write.position) × (put.dead ≡ write.end))
