-- A put and a fill by the next word of a generator, and the help after them.
use Rattle.std.proofs.Common.{◌≡◌, ℕ, List, Option, Bool, subst}
use Rattle.policy_laws.specs.declared.choice.Choice.{Choice}
use Rattle.policy_laws.specs.declared.job.Job.{Job}
use Rattle.record_pages.specs.Expiry.{timed}
use Rattle.record_pages.specs.declared.pushed.Pushed.{Pushed}
use Rattle.service_lane.specs.declared.helped.Helped.{Helped}
use Rattle.service_lane.specs.declared.lease.Lease.{Lease}
use Rattle.service_lane.specs.Serving.{Serving, PutsStore, FillsStore}
use Rattle.service_lane.specs.Upkeep.{Helps}
use Rattle.service_lane.specs.WithHelp.{PutsAndHelps, FillsAndHelps}

module _ {D : Type 0} (size : ℕ) (honest : D → Bool) (failures : D → ℕ) (held : D → ℕ → Option (List ℕ)) (plan_of : Job → List Choice) (key value : List ℕ) (expires next word : ℕ) (is : word ≡ next) (pushed : Pushed) (old between new : Serving D) (helped : Helped) (helps : Helps size honest failures held plan_of between helped new) where
  pub puts_and_helps : PutsStore size held (record { key = key; value = timed value expires }) word pushed old between → PutsAndHelps size honest failures held plan_of (record { key = key; value = timed value expires }) next pushed old new
  puts_and_helps puts = record { between = between; helped = helped; puts = subst (λ (w : ℕ). PutsStore size held (record { key = key; value = timed value expires }) w pushed old between) is puts; helps = helps }

  pub fills_and_helps : (lease : Lease) → FillsStore size held (record { key = key; value = timed value expires }) word lease pushed old between → FillsAndHelps size honest failures held plan_of (record { key = key; value = timed value expires }) next lease pushed old new
  fills_and_helps lease fills = record { between = between; helped = helped; fills = subst (λ (w : ℕ). FillsStore size held (record { key = key; value = timed value expires }) w lease pushed old between) is fills; helps = helps }
