-- What the lock of a lane keeps, when it is new, and what calls do to it.
use Rattle.std.specs.Prelude.{◌≡◌, ℕ, List, Option, Bool}
use Rattle.policy_laws.specs.declared.choice.Choice.{Choice}
use Rattle.policy_laws.specs.declared.job.Job.{Job}
use Rattle.record_pages.specs.declared.layout.Layout.{Layout}
use Rattle.record_pages.specs.Expiry.{timed}
use Rattle.key_hash.specs.declared.random_seed.RandomSeed.{RandomSeed}
use Rattle.key_hash.specs.Hashing.{derived}
use Rattle.page_device.specs.Counting.{CountedDevice, no_device_counts}
use Rattle.service_lane.specs.Counting.{counts_stale, counts_lease}
use Rattle.service_lane.specs.Leases.{lease_for}
use Rattle.service_lane.specs.Serving.{Serving, Gets, OpensServing}
use Rattle.service_lane.specs.WithHelp.{FillsAndHelps}
use Rattle.service_lane.specs.declared.lease.Lease.{Lease}
use Rattle.service_lane.specs.declared.filled.Filled.{Filled}
use Rattle.service_lane.specs.declared.filled.Filled.TheVariants.{Stored, Stale}
use Rattle.service_lane.specs.Words.{words_for}
use Rattle.service_cache.specs.Calls.{looked_up}
use Rattle.service_cache.specs.Seated.{Seated}
use Rattle.service_cache.specs.declared.service_options.ServiceOptions.{ServiceOptions}
use Rattle.service_cache.specs.declared.looked_up.LookedUp.{LookedUp}
use Rattle.service_cache.specs.declared.looked_up.LookedUp.TheVariants.{Hit, Miss}

-- a new lane of this number: empty, of this layout, over this device, with this many slots for leases that have seen no write, and
-- sorted by the cache's seed for the number; one in so many hits on flash has its object brought back
abbrev pub IsNewLane : {D : Type 0} → Layout → ℕ → ℕ → RandomSeed → ℕ → D → Serving (CountedDevice D) → Type 0
IsNewLane layout lease_slots bring_back seed number device new = OpensServing layout lease_slots bring_back number (derived seed number) (record { device = device; counts = no_device_counts }) new

-- a lane with its register was just opened over some device, of this layout and by these options, as its number in the book says
pub record IsNewSeated {D : Type 0} (layout : Layout) (options : ServiceOptions) (seed : RandomSeed) (new : Seated (CountedDevice D)) : Type 0 where
  pub device : D
  pub serving : IsNewLane layout options.lease_slots options.bring_back seed new.register.number device new.serving
  pub words : new.words ≡ words_for seed new.register.number

-- what comes after an answer to a look-up: at a miss a lease of the key, which is counted; at a hit nothing
abbrev pub LeasesAfter : {D : Type 0} → LookedUp → List ℕ → Serving D → Serving D → Type 0
LeasesAfter (Hit tier expires) key between new = new ≡ between
LeasesAfter (Miss cause lease) key between new =
    (new ≡ record between { counts = counts_lease between.counts }) × (lease ≡ lease_for between.slots key)

-- A look-up that leases its key at a miss: the lane answered so, with this in the buffer, and leased the key at a miss.
pub record LooksUp {D : Type 0} (size : ℕ) (honest : D → Bool) (failures : D → ℕ) (held : D → ℕ → Option (List ℕ)) (key : List ℕ) (moment : ℕ) (looked : LookedUp) (found : List ℕ) (old new : Serving D) : Type 0 where
  pub between : Serving D
  pub gets : Gets size honest failures held key moment (looked_up looked found) old between
  pub leased : LeasesAfter looked key between new

-- what a fill leaves: if it was stored, the lane's fill and help after it; if it is stale, all but a counter
abbrev pub FillsOrNot : {D : Type 0} → ℕ → (D → Bool) → (D → ℕ) → (D → ℕ → Option (List ℕ)) → (Job → List Choice) → List ℕ → List ℕ → ℕ → ℕ → Lease → Filled → Serving D → Serving D → Type 0
FillsOrNot size honest failures held plan_of key value expires word lease (Stored pushed) old new =
    FillsAndHelps size honest failures held plan_of (record { key = key; value = timed value expires }) word lease pushed old new
FillsOrNot size honest failures held plan_of key value expires word lease Stale old new = new ≡ record old { counts = counts_stale old.counts }
