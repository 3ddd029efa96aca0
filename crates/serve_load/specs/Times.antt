-- What is reported of times: of those of gets and of those of puts.
use Rattle.std.specs.Prelude.{◌≡◌, ◌⊎◌, ◌+◌, ◌-◌, ◌%◌, ◌<◌, ◌≤◌, ◌++◌, ◌∷◌, [], List, ℕ, length, min, Option, None, Some, Bool, true, false, ◌==◌}
use Rattle.std.specs.Time.{instant_nanos}
use Rattle.std.specs.declared.time.Instant.{Instant}
use Rattle.load.specs.declared.histogram.Quantiles.{Quantiles}
use Rattle.load.specs.Cells.{longest}
use Rattle.load.specs.Holding.{most_times}
use Rattle.load.specs.Quantile.{IsQuantile, greatest}
use Rattle.load.specs.declared.serve_operation.ServeOperation.{ServeOperation}
use Rattle.load.specs.declared.serve_operation.ServeOperation.TheVariants.{Get, Put, Remove}
use Rattle.serve_load.specs.declared.call_times.CallTimes.{CallTimes}
use Rattle.serve_load.specs.declared.call_times.TheConstants.{TIMED}

-- the four numbers are those of these times
pub record AreTold (times : List ℕ) (told : Quantiles) : Type 0 where
  pub half : IsQuantile times 500 told.p50
  pub most_of_hundred : IsQuantile times 990 told.p99
  pub most_of_thousand : IsQuantile times 999 told.p999
  pub longest : told.most ≡ greatest times

-- these times and one more, cut at the longest, unless there are as many as there may be
pub record HasOneMore (time : ℕ) (before times : List ℕ) : Type 0 where
  pub added : length before < most_times → times ≡ before ++ min time longest ∷ []
  pub full : most_times ≤ length before → times ≡ before

-- an operation that took so many nanoseconds adds them to those of its kind alone: a get to those of gets, a put to those of puts,
-- a removal to none
abbrev pub IsNoted : ServeOperation → ℕ → List ℕ → List ℕ → List ℕ → List ℕ → Type 0
IsNoted (Get key) time gets_before gets puts_before puts = HasOneMore time gets_before gets × (puts ≡ puts_before)
IsNoted (Put key) time gets_before gets puts_before puts = (gets ≡ gets_before) × HasOneMore time puts_before puts
IsNoted (Remove key) time gets_before gets puts_before puts = (gets ≡ gets_before) × (puts ≡ puts_before)

-- the nanoseconds from what the clock told first to what it told then; none if it went back
abbrev pub nanos_between : Instant → Instant → ℕ
nanos_between begin end = instant_nanos end - instant_nanos begin

-- an operation that began when the clock told this adds the time from then to what the clock tells at its end, or none if the clock
-- does not tell it
abbrev pub IsNotedSince : ServeOperation → Instant → List ℕ → List ℕ → List ℕ → List ℕ → Type 0
IsNotedSince operation begin gets_before gets puts_before puts =
    ((gets ≡ gets_before) × (puts ≡ puts_before)) ⊎ ((end : Instant) × IsNoted operation (nanos_between begin end) gets_before gets puts_before puts)

-- the same of an operation whose begin the clock may not have told: it adds none then
abbrev pub IsNotedOnce : ServeOperation → Option Instant → List ℕ → List ℕ → List ℕ → List ℕ → Type 0
IsNotedOnce operation None gets_before gets puts_before puts = (gets ≡ gets_before) × (puts ≡ puts_before)
IsNotedOnce operation (Some begin) gets_before gets puts_before puts = IsNotedSince operation begin gets_before gets puts_before puts

-- whether the operation with this number is timed: one of sixteen, and no removal
abbrev pub is_timed : ServeOperation → ℕ → Bool
is_timed (Get key) number = number % TIMED == 0
is_timed (Put key) number = number % TIMED == 0
is_timed (Remove key) number = false

-- the operation with this number adds no time, or is one that is timed and adds one at most, from its begin to its end
abbrev pub IsSampled : ℕ → ServeOperation → List ℕ → List ℕ → List ℕ → List ℕ → Type 0
IsSampled number operation gets_before gets puts_before puts =
    ((gets ≡ gets_before) × (puts ≡ puts_before)) ⊎ ((is_timed operation number ≡ true) × ((begin : Instant) × IsNotedSince operation begin gets_before gets puts_before puts))

-- these times and those of others, as many as there may be
abbrev pub IsJoined : List ℕ → List ℕ → List ℕ → Type 0
IsJoined before other times = length before + length other ≤ most_times → times ≡ before ++ other

-- the times of a caller are added, of gets to those of gets and of puts to those of puts, if it has any
abbrev pub JoinsOf : Option CallTimes → CallTimes → CallTimes → Type 0
JoinsOf None before times = times ≡ before
JoinsOf (Some other) before times = IsJoined before.gets other.gets times.gets × IsJoined before.puts other.puts times.puts
