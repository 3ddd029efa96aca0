-- The hits of values that nobody put, in numbers.
use Rattle.std.specs.Prelude.{◌≡◌, ℕ, ◌+◌, ◌*◌, ◌<◌, ◌≤◌, ◌⊎◌, List, All, Contains, length, slice_get, Some}
use Rattle.std.specs.List.Sorted.{IsNonDecreasingBy}
use Rattle.trace_file.specs.declared.call_kind.CallKind.TheVariants as kinds
use Rattle.certificate_finder.specs.declared.numbered_call.NumberedCall.{NumberedCall}
use Rattle.certificate_finder.specs.Leaves.{itself}
use Rattle.certificate_finder.specs.Lists.{Lists}
use Rattle.certificate_finder.specs.Putting.{Putting}
use Rattle.certificate_finder.specs.Writing.{Writing}

-- the numbers of a key and a value in one
abbrev pub pair_of : NumberedCall → ℕ
pair_of step = step.key * 4294967296 + step.value

-- a number is a call's pair
abbrev pub TellsPair : ℕ → NumberedCall → ℕ → Type 0
TellsPair position step pair = pair ≡ pair_of step

-- the pairs of all puts, in order
pub record ArePairs (steps : List NumberedCall) (pairs : List ℕ) : Type 0 where
  pub lists : Lists steps Putting TellsPair (length steps) pairs
  pub sorted : IsNonDecreasingBy itself pairs

-- a call is a hit, and its pair is none of these
abbrev pub IsUnlisted : List ℕ → NumberedCall → Type 0
IsUnlisted pairs step = (step.kind ≡ kinds.Hit) × (¬ Contains pairs (pair_of step))

-- a call is a hit, and no put has its key and its value
pub record ReadsUnput (steps : List NumberedCall) (step : NumberedCall) : Type 0 where
  pub kind : step.kind ≡ kinds.Hit
  pub unput : (position : ℕ) (put : NumberedCall) → slice_get steps position ≡ Some put → Putting put → put.key ≡ step.key → ¬ (put.value ≡ step.value)

-- a rank above those of all calls
abbrev pub no_rank : ℕ
no_rank = 79228162514264337593543950336

-- the rank of what is wanted, and no rank otherwise
abbrev pub IsRankIf : Type 0 → ℕ → ℕ → Type 0
IsRankIf wanted value rank = (wanted × (rank ≡ value)) ⊎ ((¬ wanted) × (rank ≡ no_rank))

-- the turn of a call at a position: by its start, then by the position
abbrev pub turn_at : ℕ → NumberedCall → ℕ
turn_at position step = step.start * 4294967296 + position

-- the turn of a hit of a value that nobody put
abbrev pub IsTurn : List ℕ → ℕ → NumberedCall → ℕ → Type 0
IsTurn pairs position step rank = IsRankIf (IsUnlisted pairs step) (turn_at position step) rank

-- when a write ended
abbrev pub IsWriteEnd : ℕ → NumberedCall → ℕ → Type 0
IsWriteEnd position step rank = IsRankIf (Writing step) step.end rank

-- a call of a key has this rank
pub record HasRank (R : ℕ → NumberedCall → ℕ → Type 0) (steps : List NumberedCall) (key rank : ℕ) : Type 0 where
  pub position : ℕ
  pub step : NumberedCall
  pub at : slice_get steps position ≡ Some step
  pub of_key : step.key ≡ key
  pub is : R position step rank

-- of the calls of a key below a position none has a lesser rank than this one, which one of the key has, or none
pub record IsLeast (R : ℕ → NumberedCall → ℕ → Type 0) (steps : List NumberedCall) (upto key least : ℕ) : Type 0 where
  pub below : (position : ℕ) (step : NumberedCall) (rank : ℕ) → position < upto → slice_get steps position ≡ Some step → step.key ≡ key → R position step rank → least ≤ rank
  pub is : (least ≡ no_rank) ⊎ HasRank R steps key least

-- for each number of a key the least rank of its calls below a position
pub record AreLeast (R : ℕ → NumberedCall → ℕ → Type 0) (steps : List NumberedCall) (upto : ℕ) (least : List ℕ) : Type 0 where
  pub keys : All (λ step. step.key < length least) steps
  pub each : (key rank : ℕ) → slice_get least key ≡ Some rank → IsLeast R steps upto key rank

-- a call is the hit whose turn is the least of its key, and no write of its key ended before it started
pub record IsFirstOf (pairs turns ends : List ℕ) (position : ℕ) (step : NumberedCall) : Type 0 where
  pub unput : IsUnlisted pairs step
  pub turn : slice_get turns step.key ≡ Some (turn_at position step)
  pub end : ℕ
  pub end_at : slice_get ends step.key ≡ Some end
  pub unwritten : step.start ≤ end

-- the value of the hit at a position is taken as there from the start
pub record IsWarmStep (steps : List NumberedCall) (position : ℕ) : Type 0 where
  pub step : NumberedCall
  pub at : slice_get steps position ≡ Some step
  pub unput : ReadsUnput steps step
  pub unwritten : (other : ℕ) (write : NumberedCall) → slice_get steps other ≡ Some write → Writing write → write.key ≡ step.key → step.start ≤ write.end
  pub first : (other : ℕ) (hit : NumberedCall) → slice_get steps other ≡ Some hit → ReadsUnput steps hit → hit.key ≡ step.key → turn_at position step ≤ turn_at other hit
