-- The calls of a key that are nearest in time to a call.
use Rattle.std.specs.Prelude.{◌≡◌, ◌≢◌, ℕ, ◌-◌, ◌^◌, ◌<◌, ◌≤◌, ◌⊎◌, max, List, [], ◌∷◌, ◌++◌, All, AllPairs, Contains, length, Option, Some, None, IsSomeAnd, slice_get}
use Rattle.trace_file.specs.declared.call.Call.{Call}

-- how many stamps lie between a call and another, if there is one: 0 if they overlap
abbrev pub gap_from : Call → Option Call → ℕ
gap_from call None = 0
gap_from call (Some other) = max (call.start - other.end) (other.start - call.end)

-- the call at this position is of the key, and is none of these
abbrev pub IsOther : List Call → List ℕ → List ℕ → ℕ → Type 0
IsOther history key without position = IsSomeAnd (slice_get history position) (λ call. call.key ≡ key) × ¬ Contains without position

-- a position was put after others, if it is one
abbrev pub IsTakenOther : List Call → List ℕ → List ℕ → ℕ → List ℕ → List ℕ → Type 0
IsTakenOther history key without position old new =
    ((¬ IsOther history key without position) × (new ≡ old)) ⊎ (IsOther history key without position × (new ≡ old ++ position ∷ []))

-- the positions below a number whose calls are of the key, without these: each once
pub record AreOthers (history : List Call) (key without : List ℕ) (below : ℕ) (others : List ℕ) : Type 0 where
  pub each : All (IsOther history key without) others
  pub inside : All (λ position. position < below) others
  pub once : AllPairs (λ one other. one ≢ other) others
  pub all : (position : ℕ) → position < below → IsOther history key without position → Contains others position

-- of the calls of a call's key, without these, up to this many that are nearest to it, each once: whatever is left out is no nearer, and there is no room for it
pub record AreNearest (history : List Call) (call : Call) (without : List ℕ) (most : ℕ) (near : List ℕ) : Type 0 where
  pub few : length near ≤ most
  pub each : All (IsOther history call.key without) near
  pub once : AllPairs (λ one other. one ≢ other) near
  pub rest : (other : ℕ) → other < 2 ^ 32 → IsOther history call.key without other → ¬ Contains near other
      → (length near ≡ most) × All (λ one. gap_from call (slice_get history one) ≤ gap_from call (slice_get history other)) near
