-- What a lane of a cache was under its lock.
use Rattle.std.specs.Prelude.{◌≡◌, ◌↔◌, ℕ, List, Option, Bool, is_some}
use Rattle.policy_laws.specs.declared.choice.Choice.{Choice}
use Rattle.policy_laws.specs.declared.job.Job.{Job}
use Rattle.page_device.specs.Counting.{CountedDevice}
use Rattle.service_lane.specs.declared.filled.Filled.{Filled}
use Rattle.service_lane.specs.declared.filled.Filled.TheVariants.{Stale}
use Rattle.service_lane.specs.declared.lease.Lease.{Lease}
use Rattle.service_lane.specs.declared.upkept.UpkeepStep.{UpkeepStep}
use Rattle.service_lane.specs.Leases.{HoldsLease}
use Rattle.service_lane.specs.Upkeep.{Upkeeps, may_ask, due_in}
use Rattle.service_lane.specs.Words.{next_word}
use Rattle.service_cache.specs.Held.{FillsOrNot}
use Rattle.service_cache.specs.Seated.{Seated}

-- the lane of this number was so when its lock was held
pub record WasAtLane (D : Type 0) (number : ℕ) (is : Seated (CountedDevice D) → Type 0) : Type 0 where
  pub held : Seated (CountedDevice D)
  pub number_is : held.register.number ≡ number
  pub was : is held

-- In one hold of the lane of this number it was so before and after.
pub record DoneAtLane (D : Type 0) (number : ℕ) (does : Seated (CountedDevice D) → Seated (CountedDevice D) → Type 0) : Type 0 where
  pub old : Seated (CountedDevice D)
  pub new : Seated (CountedDevice D)
  pub number_is : old.register.number ≡ number
  pub did : does old new

-- A fill asked its lease: it was stale exactly if the lease had ended, or was another key's or another lane's; else the lane stored it. What
-- moved in help went by a policy of the cache's type.
pub record FillsByLease {D : Type 0} (size : ℕ) (honest : D → Bool) (failures : D → ℕ) (held : D → ℕ → Option (List ℕ)) {P : Type 0} (plan_of : P → Job → List Choice) (lease : Lease) (key value : List ℕ) (expires : ℕ) (filled : Filled) (old new : Seated (CountedDevice D)) : Type 0 where
  pub policy : P
  pub stale : (filled ≡ Stale) ↔ (¬ HoldsLease old.serving.slots key lease)
  pub fills : FillsOrNot size (λ c. honest c.device) (λ c. failures c.device) (λ c. held c.device) (plan_of policy) key value expires (next_word old.words) lease filled old.serving new.serving

-- A step of upkeep did what was due, and says whether the device may have been asked, and whether something is due after it.
pub record TendsLane {D : Type 0} (size : ℕ) (honest : D → Bool) (failures : D → ℕ) (held : D → ℕ → Option (List ℕ)) {P : Type 0} (plan_of : P → Job → List Choice) (step : UpkeepStep) (old new : Seated (CountedDevice D)) : Type 0 where
  pub policy : P
  pub upkept : Upkeeps size (λ c. honest c.device) (λ c. failures c.device) (λ c. held c.device) (plan_of policy) old.serving step.did new.serving
  pub asked : step.asked_device ≡ may_ask step.did
  pub due : step.is_due ≡ is_some (due_in new.serving)
