-- Why a hit can have read no put, in numbers.
use Rattle.std.specs.Prelude.{◌≡◌, ℕ, ◌+◌, ◌-◌, ◌<◌, ◌≤◌, ◌⊎◌, Bool, true, false, List, All, Contains, drop, length, map, nat_lt, slice_get, take, Option, None, Some, IsTrue}
use Rattle.trace_file.specs.declared.call.Call.{Call}
use Rattle.record_pages.specs.Expiry.{is_live}
use Rattle.certificate_finder.specs.declared.excluded.Excluded.{Excluded}
use Rattle.certificate_finder.specs.declared.excluded.Excuse.{Excuse}
use Rattle.certificate_finder.specs.declared.excluded.Excuse.TheVariants.{Later, Expired, Replaced}
use Rattle.certificate_finder.specs.declared.faults.WrongHit.{WrongHit}
use Rattle.trace_file.specs.declared.call_kind.CallKind.TheVariants as kinds
use Rattle.certificate_finder.specs.declared.put.Put.{Put}
use Rattle.certificate_finder.specs.declared.numbered_call.NumberedCall.{NumberedCall}
use Rattle.certificate_finder.specs.Lateness.{late_hit}
use Rattle.certificate_finder.specs.Putting.{IsOver, last_rank, put_rank, value_rank}
use Rattle.certificate_finder.specs.Steps.{AreSteps}
use Rattle.certificate_finder.specs.Witnesses.{NamePutsOnce}
use Rattle.certificate_finder.specs.Writing.{IsSplit, IsSplitBelow}

-- an excuse is what a put's stamps and a hit's say
abbrev pub IsExcuse : Put → NumberedCall → Excuse → Type 0
IsExcuse put hit Later = hit.end < put.start
IsExcuse put hit (Replaced write) = (put.over ≡ Some write) × (put.dead < hit.start)
IsExcuse put hit Expired = (put.start ≤ hit.end) × ((put.over ≡ None) ⊎ (hit.start ≤ put.dead))

-- what excludes a put that a hit can't have read, by whether the put started after the hit's end, whether the write over it ended before the hit's start, and which write that is
abbrev pub excuse_by : Bool → Bool → Option ℕ → Excuse
excuse_by true gone over = Later
excuse_by false true None = Expired
excuse_by false true (Some write) = Replaced write
excuse_by false false over = Expired

abbrev pub excuse_of : NumberedCall → Put → Excuse
excuse_of hit put = excuse_by (nat_lt hit.end put.start) (nat_lt put.dead hit.start) put.over

-- a put with what excludes it
abbrev pub excused : NumberedCall → Put → Excluded
excused hit put = record { put = put.position; why = excuse_of hit put }

-- the puts from an index up to another one, each with what excludes it
abbrev pub excused_between : List Put → NumberedCall → ℕ → ℕ → List Excluded
excused_between puts hit from upto = map (excused hit) (take (upto - from) (drop from puts))

-- the puts of a hit's key and value are those between two indexes
pub record AreLike (puts : List Put) (hit : NumberedCall) (from upto : ℕ) : Type 0 where
  pub low : IsSplitBelow put_rank puts (value_rank hit.key hit.value 0) from
  pub high : IsSplit put_rank puts (value_rank hit.key hit.value 18446744073709551615) upto

-- of the puts below an index this is the greatest rank of a last stamp, or 0
pub record IsLast (puts : List Put) (upto last : ℕ) : Type 0 where
  pub greatest : (k : ℕ) (put : Put) → k < upto → slice_get puts k ≡ Some put → last_rank put ≤ last
  pub has : (last ≡ 0) ⊎ ((k : ℕ) × (put : Put) × (k < upto) × (slice_get puts k ≡ Some put) × (last_rank put ≡ last))

-- these ranks, for each of so many puts the one of the puts up to it
pub record AreLasts (puts : List Put) (upto : ℕ) (lasts : List ℕ) : Type 0 where
  pub count : length lasts ≡ upto
  pub each : (k last : ℕ) → slice_get lasts k ≡ Some last → IsLast puts (k + 1) last

-- a put between two indexes can still be read at the start of a hit, or later
abbrev pub HasStanding : List Put → NumberedCall → ℕ → ℕ → Type 0
HasStanding puts hit from upto = (k : ℕ) × (put : Put) × (from ≤ k) × (k < upto) × (slice_get puts k ≡ Some put) × (hit.start ≤ put.dead)

-- each put between two indexes can no longer be read when a hit starts, and the last one that could is over for so long
pub record AreGone (puts : List Put) (hit : NumberedCall) (from upto time : ℕ) : Type 0 where
  pub place : ℕ
  pub put : Put
  pub behind : from ≤ place
  pub before : place < upto
  pub at : slice_get puts place ≡ Some put
  pub gone : put.dead < hit.start
  pub time_is : time ≡ hit.start - put.dead
  pub last : (k : ℕ) (other : Put) → from ≤ k → k < upto → slice_get puts k ≡ Some other → other.dead ≤ put.dead

-- how late a hit is, by the puts of its key and value that had started when it ended
abbrev pub IsLate : List Put → NumberedCall → ℕ → ℕ → Option ℕ → Type 0
IsLate puts hit from upto None = (upto ≤ from) ⊎ HasStanding puts hit from upto
IsLate puts hit from upto (Some time) = AreGone puts hit from upto time

-- the same by the index up to which the puts had started
pub record IsLateFrom (puts : List Put) (hit : NumberedCall) (from : ℕ) (late : Option ℕ) : Type 0 where
  pub upto : ℕ
  pub begun : IsSplit put_rank puts (value_rank hit.key hit.value hit.end) upto
  pub is : IsLate puts hit from upto late

-- this excludes that a hit read a put
abbrev pub ExcludesStep : List NumberedCall → NumberedCall → NumberedCall → Excuse → Type 0
ExcludesStep steps hit put Later = hit.end < put.start
ExcludesStep steps hit put (Replaced write) = (other : NumberedCall) × (slice_get steps write ≡ Some other) × IsOver put other × (other.end < hit.start)
ExcludesStep steps hit put Expired = ¬ IsTrue (is_live put.time hit.time)

-- a put of the hit's key and value
pub record IsLikePut (hit put : NumberedCall) : Type 0 where
  pub kind : put.kind ≡ kinds.Put
  pub key : put.key ≡ hit.key
  pub value : put.value ≡ hit.value

-- a put of the hit's key and value is excluded, for the reason that is named
pub record IsExcludedStep (steps : List NumberedCall) (hit : NumberedCall) (excluded : Excluded) : Type 0 where
  pub put : NumberedCall
  pub at : slice_get steps excluded.put ≡ Some put
  pub like : IsLikePut hit put
  pub why : ExcludesStep steps hit put excluded.why

-- these are all puts of the hit's key and value, each once, and each excluded
pub record AreExcluded (steps : List NumberedCall) (hit : NumberedCall) (excluded : List Excluded) : Type 0 where
  pub each : All (IsExcludedStep steps hit) excluded
  pub all : (position : ℕ) (put : NumberedCall) → slice_get steps position ≡ Some put → IsLikePut hit put → Contains (map (λ one. one.put) excluded) position
  pub once : NamePutsOnce excluded

-- these are all puts of the key and value of the hit at a position, each excluded
pub record AreExcludedAt (steps : List NumberedCall) (position : ℕ) (excluded : List Excluded) : Type 0 where
  pub hit : NumberedCall
  pub at : slice_get steps position ≡ Some hit
  pub kind : hit.kind ≡ kinds.Hit
  pub puts : AreExcluded steps hit excluded

-- of all puts of a hit's key and value, each excluded, the first so many are shown, and how late the hit is
pub record IsWrongAt (steps : List NumberedCall) (most : ℕ) (wrong : WrongHit) : Type 0 where
  pub excluded : List Excluded
  pub all : AreExcludedAt steps wrong.hit excluded
  pub first : wrong.puts.items ≡ take most excluded
  pub late : (history : List Call) → AreSteps history steps → wrong.late ≡ late_hit history wrong.hit excluded

-- the hits at these positions, each so
pub record AreWrongAt (steps : List NumberedCall) (most : ℕ) (positions : List ℕ) (hits : List WrongHit) : Type 0 where
  pub same : map (λ (wrong : WrongHit). wrong.hit) hits ≡ positions
  pub each : All (IsWrongAt steps most) hits
