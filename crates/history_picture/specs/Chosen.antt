-- The calls that matter, as they are taken up.
use Rattle.std.specs.Prelude.{◌≡◌, ◌≢◌, ℕ, ◌^◌, ◌<◌, ◌≤◌, ◌⊎◌, List, [], ◌∷◌, ◌++◌, All, AllPairs, Contains, length, Option, Some, None, slice_get, IsSomeAnd}
use Rattle.trace_file.specs.declared.call.Call.{Call}
use Rattle.history_picture.specs.Nearest.{gap_from}

-- of the positions that matter these are shown: no others, each that has a call, and each once
pub record AreChosen (history : List Call) (marks shown : List ℕ) : Type 0 where
  pub few : length shown ≤ length marks
  pub each : All (Contains marks) shown
  pub there : All (λ position. position < length history) shown
  pub once : AllPairs (λ one other. one ≢ other) shown
  pub marked : All (λ mark. mark < length history → Contains shown mark) marks

-- a position was there before, or was taken up
abbrev pub IsTakenNew : ℕ → List ℕ → List ℕ → Type 0
IsTakenNew mark old new = (Contains old mark × (new ≡ old)) ⊎ ((¬ Contains old mark) × (new ≡ old ++ mark ∷ []))

-- a position was taken up, or has no call, or was there before
abbrev pub IsTakenUp : List Call → ℕ → List ℕ → List ℕ → Type 0
IsTakenUp history mark old new =
    ((mark < length history → Contains old mark) × (new ≡ old)) ⊎ ((mark < length history) × (¬ Contains old mark) × (new ≡ old ++ mark ∷ []))

-- the calls at two positions have one key
abbrev pub HaveOneKey : List Call → ℕ → ℕ → Type 0
HaveOneKey history one other =
    IsSomeAnd (slice_get history other) (λ next. IsSomeAnd (slice_get history one) (λ call. call.key ≡ next.key))

-- how many stamps lie between two calls, if they are there: 0 if they overlap
abbrev pub gap_of : Option Call → Option Call → ℕ
gap_of None other = 0
gap_of (Some call) other = gap_from call other

-- how far the call at a position is, in stamps, from the call at another
abbrev pub distance : List Call → ℕ → ℕ → ℕ
distance history first position = gap_of (slice_get history first) (slice_get history position)

-- calls of the first one's key were added, each once and none that was there, up to this many: the nearest to it
pub record AreAdded (history : List Call) (first most : ℕ) (old new : List ℕ) : Type 0 where
  pub added : List ℕ
  pub is : new ≡ old ++ added
  pub few : length new ≤ most
  pub of_key : All (λ position. HaveOneKey history position first) added
  pub fresh : All (λ position. ¬ Contains old position) added
  pub once : AllPairs (λ one other. one ≢ other) added
  pub rest : (other : ℕ) → other < 2 ^ 32 → HaveOneKey history other first → ¬ Contains new other
      → (length new ≡ most) × All (λ one. distance history first one ≤ distance history first other) added
