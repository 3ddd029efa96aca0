-- The scale that the bars are drawn on.
use Rattle.std.specs.Prelude.{ℕ, ◌-◌, length, unwrap_or, List, [], ◌∷◌, ◌==◌, Option, Some, None, Contains, slice_get, if◌then◌else◌}
use Rattle.std.specs.List.{flat_map}
use Rattle.std.specs.List.Sorted.{IsStrictlyIncreasing}
use Rattle.trace_file.specs.declared.call.Call.{Call}
use Rattle.history_picture.specs.Rows.{never_ended}

-- the stamps of a call, if there is one: its start, and its end unless it never returned
abbrev pub stamps_in : Option Call → List ℕ
stamps_in None = []
stamps_in (Some call) = if call.end == never_ended then call.start ∷ [] else call.start ∷ call.end ∷ []

-- the stamps of the call at a position
abbrev pub stamps_at : List Call → ℕ → List ℕ
stamps_at history position = stamps_in (slice_get history position)

-- these are the stamps of the calls at these positions: each once and rising, no others, and all
pub record IsScale (history : List Call) (shown stamps : List ℕ) : Type 0 where
  pub rising : IsStrictlyIncreasing stamps
  pub each : (stamp : ℕ) → Contains stamps stamp → Contains (flat_map (stamps_at history) shown) stamp
  pub all : (stamp : ℕ) → Contains (flat_map (stamps_at history) shown) stamp → Contains stamps stamp

-- the first stamp, 0 if there is none
abbrev pub first_of : List ℕ → ℕ
first_of stamps = unwrap_or (slice_get stamps 0) 0

-- the last stamp, 0 if there is none
abbrev pub last_of : List ℕ → ℕ
last_of stamps = unwrap_or (slice_get stamps (length stamps - 1)) 0
