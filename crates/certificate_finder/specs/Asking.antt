-- The hits of a history, and what each can have read.
use Rattle.std.specs.Prelude.{◌≡◌, ℕ, List, length, slice_get, Some}
use Rattle.std.specs.List.Sorted.{IsNonDecreasingBy}
use Rattle.trace_file.specs.declared.call_kind.CallKind.TheVariants as kinds
use Rattle.certificate_finder.specs.declared.put.Put.{Put}
use Rattle.certificate_finder.specs.declared.ranked.Ranked.{Ranked}
use Rattle.certificate_finder.specs.declared.readable.Readable.{Readable}
use Rattle.certificate_finder.specs.declared.numbered_call.NumberedCall.{NumberedCall}
use Rattle.certificate_finder.specs.Lists.{Lists}
use Rattle.certificate_finder.specs.Putting.{GivesAt, value_rank}
use Rattle.certificate_finder.specs.Readings.{Says}

-- the call hits
abbrev pub Asking : NumberedCall → Type 0
Asking step = step.kind ≡ kinds.Hit

-- a hit with its rank, by keys, values and ends
pub record TellsHit (position : ℕ) (step : NumberedCall) (hit : Ranked) : Type 0 where
  pub is_at : hit.position ≡ position
  pub rank : hit.rank ≡ value_rank step.key step.value step.end

-- the hits, in the order of their ranks
pub record AreAsked (steps : List NumberedCall) (asked : List Ranked) : Type 0 where
  pub lists : Lists steps Asking TellsHit (length steps) asked
  pub sorted : IsNonDecreasingBy (λ (hit : Ranked). hit.rank) asked

-- for each hit which puts it can have read
pub record AreReadings (steps : List NumberedCall) (puts : List Put) (readings : List Readable) : Type 0 where
  pub count : length readings ≡ length steps
  pub each : (position : ℕ) (step : NumberedCall) (reading : Readable) → slice_get steps position ≡ Some step → slice_get readings position ≡ Some reading → Asking step → Says (GivesAt puts step) reading
