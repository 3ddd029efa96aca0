-- A put or a fill that was stored, and what was done in help after it.
use Rattle.std.specs.Prelude.{ℕ, List, Option, Bool}
use Rattle.policy_laws.specs.declared.choice.Choice.{Choice}
use Rattle.policy_laws.specs.declared.job.Job.{Job}
use Rattle.record_pages.specs.declared.pushed.Pushed.{Pushed}
use Rattle.memory_cache.specs.declared.pair.Pair.{Pair}
use Rattle.service_lane.specs.declared.helped.Helped.{Helped}
use Rattle.service_lane.specs.declared.lease.Lease.{Lease}
use Rattle.service_lane.specs.Serving.{Serving, PutsStore, FillsStore}
use Rattle.service_lane.specs.Upkeep.{Helps}

-- a put of a pair was stored by this word of admission, and then steps were done in help
pub record PutsAndHelps {D : Type 0} (size : ℕ) (honest : D → Bool) (failures : D → ℕ) (held : D → ℕ → Option (List ℕ)) (plan_of : Job → List Choice) (p : Pair) (word : ℕ) (pushed : Pushed) (old new : Serving D) : Type 0 where
  pub between : Serving D
  pub helped : Helped
  pub puts : PutsStore size held p word pushed old between
  pub helps : Helps size honest failures held plan_of between helped new

-- a fill with a pair, by a lease, was stored by this word of admission, and then steps were done in help
pub record FillsAndHelps {D : Type 0} (size : ℕ) (honest : D → Bool) (failures : D → ℕ) (held : D → ℕ → Option (List ℕ)) (plan_of : Job → List Choice) (p : Pair) (word : ℕ) (lease : Lease) (pushed : Pushed) (old new : Serving D) : Type 0 where
  pub between : Serving D
  pub helped : Helped
  pub fills : FillsStore size held p word lease pushed old between
  pub helps : Helps size honest failures held plan_of between helped new
