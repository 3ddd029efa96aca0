-- What a step of upkeep does and tells.
use Rattle.std.specs.Prelude.{◌≡◌, ℕ, Bool, false, is_some}
use Rattle.std.specs.Int.{from_bool}
use Rattle.rriparoo.specs.Rriparoo.{rriparoo_plan}
use Rattle.service_lane.specs.declared.upkept.Upkept.{Upkept}
use Rattle.service_lane.specs.declared.upkept.Upkept.TheVariants as upkept
use Rattle.service_lane.specs.Upkeep.{Upkeeps, may_ask, due_in}
use Rattle.c_lane.specs.declared.step.Step.{Step}
use Rattle.c_lane.specs.Lane.{LaneState, Laws, page_bytes, honest_in, failures_in, held_in}

-- the number of what a step did
abbrev pub number_of_did : Upkept → ℕ
number_of_did upkept.Idle = 0
number_of_did (upkept.Flushed flushed) = 1
number_of_did (upkept.Moved moved) = 2
number_of_did upkept.OutOfMemory = 3

-- what is reported of a step
abbrev pub step_with : Upkept → Bool → Bool → Step
step_with did asked is_due = record { did = number_of_did did; asked_device = from_bool asked; is_due = from_bool is_due }

-- A step of upkeep: the lane did what was due, and what is reported is what it did.
pub record Tends {D : Type 0} (laws : Laws D) (old : LaneState D) (told : Step) (new : LaneState D) : Type 0 where
  pub did : Upkept
  pub upkept : Upkeeps page_bytes (honest_in laws) (failures_in laws) (held_in laws) rriparoo_plan old.serving did new.serving
  pub unasked : may_ask did ≡ false → new.serving.store.device ≡ old.serving.store.device
  pub words : new.words ≡ old.words
  pub told_is : told ≡ step_with did (may_ask did) (is_some (due_in new.serving))
