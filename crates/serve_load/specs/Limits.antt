-- The limit of time of a load, as a caller asks for it before each operation.
use Rattle.std.specs.Prelude.{◌≡◌, ◌≢◌, ◌+◌, ℕ, false, true}
use Rattle.serve_load.specs.declared.caller_stop.CallerStop.{CallerStop}
use Rattle.serve_load.specs.declared.caller_stop.CallerStop.TheVariants.{AllMade, Halted, TimeOver, Wrong}
use Rattle.serve_load.specs.declared.time_limit.TimeLimit.{TimeLimit}

-- the limit is of so many seconds, and nobody has asked for it
pub record IsFresh (seconds : ℕ) (limit : TimeLimit) : Type 0 where
  pub seconds_are : limit.seconds ≡ seconds
  pub unasked : limit.left ≡ 0
  pub unended : limit.is_over ≡ false

-- it was told that time is left, once more
pub record GoesOn (old new : TimeLimit) : Type 0 where
  pub left : new.left ≡ old.left + 1
  pub unended : new.is_over ≡ false
  pub seconds : new.seconds ≡ old.seconds

-- a caller is stopped so: the load was halted and the limit was not asked, or it told the end, as only a limit does
abbrev pub Stops : TimeLimit → CallerStop → TimeLimit → Type 0
Stops old Halted new = new ≡ old
Stops old TimeOver new = (new.left ≡ old.left) × (new.is_over ≡ true) × (old.seconds ≢ 0)
Stops old AllMade new = ⊥
Stops old (Wrong hit) new = ⊥

-- the limit had told the end exactly if a caller stopped for it
abbrev pub EndsBy : TimeLimit → CallerStop → Type 0
EndsBy limit TimeOver = limit.is_over ≡ true
EndsBy limit AllMade = limit.is_over ≡ false
EndsBy limit Halted = limit.is_over ≡ false
EndsBy limit (Wrong hit) = limit.is_over ≡ false

-- a caller made as many operations as the limit told it that time was left, and stopped for it where it first told the end
pub record IsTimed (operations : ℕ) (stop : CallerStop) (limit : TimeLimit) : Type 0 where
  pub each : limit.left ≡ operations
  pub first : EndsBy limit stop
