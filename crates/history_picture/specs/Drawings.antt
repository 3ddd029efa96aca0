-- What a picture of calls is laid out by.
use Rattle.std.specs.Prelude.{◌≡◌, ℕ, ◌-◌, List, [], ◌∷◌, Option, Some, None, Contains, length, slice_get}
use Rattle.std.specs.Fmt.{decimal}
use Rattle.std.specs.List.{flat_map}
use Rattle.std.specs.List.Sorted.{IsStrictlyIncreasing}
use Rattle.trace_file.specs.declared.call.Call.{Call}
use Rattle.history_picture.specs.Measures.{IsSheet}
use Rattle.history_picture.specs.Scale.{first_of, last_of}
use Rattle.history_picture.specs.declared.drawing.Drawing.{Drawing}

-- the caller of a call, if there is one
abbrev pub callers_in : Option Call → List ℕ
callers_in None = []
callers_in (Some call) = call.caller ∷ []

-- the caller of the call at a position
abbrev pub callers_at : List Call → ℕ → List ℕ
callers_at history position = callers_in (slice_get history position)

-- these are the callers of the calls at these positions: each once and rising, no others, and all
pub record AreCallers (history : List Call) (shown callers : List ℕ) : Type 0 where
  pub rising : IsStrictlyIncreasing callers
  pub each : (caller : ℕ) → Contains callers caller → Contains (flat_map (callers_at history) shown) caller
  pub all : (caller : ℕ) → Contains (flat_map (callers_at history) shown) caller → Contains callers caller

-- a picture has a column for each stamp of the calls that are shown, a row for each of their callers, and room for the longest of the times
pub record IsDrawing (history : List Call) (lines : List ℕ) (callers : List (List ℕ)) (shown : List ℕ) (drawing : Drawing) : Type 0 where
  pub sheet : IsSheet history lines callers shown drawing.sheet
  pub rows : AreCallers history shown drawing.callers.items
  pub times : drawing.times ≡ length (decimal (last_of drawing.sheet.stamps.items - first_of drawing.sheet.stamps.items))
