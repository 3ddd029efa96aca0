-- What each plan of a policy meets.
use Rattle.std.specs.Prelude.{◌≢◌, ℕ, ◌<◌, ◌≤◌, List, length, map, sum_by, slice_get, All, AllPairs, Contains}
use Rattle.std.specs.Option.{option_map_or}
use Rattle.record_pages.specs.Sizes.{max_set_records}
use Rattle.policy_laws.specs.declared.item.Item.{Item}
use Rattle.policy_laws.specs.declared.job.Job.{Job}
use Rattle.policy_laws.specs.declared.choice.Choice.{Choice}

-- how many bytes the item with a number takes
abbrev pub size_at : List Item → ℕ → ℕ
size_at items number = option_map_or (λ (item : Item). item.size) (slice_get items number) 0

-- all items of a job fit on a set page
pub record AllFit (job : Job) : Type 0 where
  pub within : sum_by (λ item. item.size) job.items ≤ job.room
  pub few : length job.items ≤ max_set_records

-- a plan names items of its job, none twice, that fit on a set page, and names all if all fit
pub record IsLawful (job : Job) (plan : List Choice) : Type 0 where
  pub in_range : All (λ choice. choice.item < length job.items) plan
  pub distinct : AllPairs (λ a b. a.item ≢ b.item) plan
  pub within : sum_by (λ choice. size_at job.items choice.item) plan ≤ job.room
  pub few : length plan ≤ max_set_records
  pub all_kept : AllFit job → (number : ℕ) → number < length job.items → Contains (map (λ choice. choice.item) plan) number
