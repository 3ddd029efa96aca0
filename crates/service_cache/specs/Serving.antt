-- A cache that serves, as contracts see it, and when one is opened.
use Rattle.std.specs.Prelude.{◌≡◌, ◌≢◌, ℕ, ◌+◌, ◌*◌, ◌<◌, ◌≤◌, List, length, Any, Some, None}
use Rattle.record_pages.specs.Sizes.{IsPageSize}
use Rattle.record_pages.specs.Table.{first_faulty}
use Rattle.record_pages.specs.Asked.{layout_pages}
use Rattle.record_pages.specs.declared.config.Config.{Config}
use Rattle.record_pages.specs.declared.layout.Layout.{Layout}
use Rattle.cache_sizes.specs.declared.limits.TheConstants.{MAX_SHARDS}
use Rattle.service_cache.specs.declared.open_service_fault.OpenServiceFault.{OpenServiceFault}
use Rattle.service_cache.specs.declared.open_service_fault.OpenServiceFault.TheVariants.{ConfigFault, Shards, DeviceCount, NoLeaseSlots, WrongPage, DeviceTooSmall, OutOfMemory}

-- a cache: the numbers of each shard, and how many shards there are
pub record Shape : Type 0 where
  pub layout : Layout
  pub shards : ℕ

-- how many lanes it has
abbrev pub lanes_of : Shape → ℕ
lanes_of s = s.shards * s.layout.lanes

-- what is true of every cache: a lane for each lane of each shard
pub record IsServing (s : Shape) (count : ℕ) : Type 0 where
  pub some_shards : 1 ≤ s.shards
  pub few_shards : s.shards ≤ MAX_SHARDS
  pub one_each : count ≡ lanes_of s
  pub some : 1 ≤ count

-- this many shards may be
pub record AreShards (shards : ℕ) : Type 0 where
  pub some : 1 ≤ shards
  pub few : shards ≤ MAX_SHARDS

-- what is asked of each shard: how many lanes it has, and how many pages the device of each has at least
pub record Needs : Type 0 where
  pub lanes : ℕ
  pub pages : ℕ

-- what a configuration asks of each shard
abbrev pub needs_of : Config → Needs
needs_of config = record { lanes = config.lanes; pages = config.sets + config.segments * config.segment_pages }

-- what a layout asks of each shard
abbrev pub layout_needs : Layout → Needs
layout_needs layout = record { lanes = layout.lanes; pages = layout_pages layout }

-- each of these shards has a device for each of its lanes
pub record HasDevices {D : Type 0} (needs : Needs) (shards : ℕ) (devices : List D) : Type 0 where
  pub are : AreShards shards
  pub one_each : length devices ≡ shards * needs.lanes

-- some device has fewer pages than its lane asks for
abbrev pub HasSmallOne : {D : Type 0} → (D → ℕ) → Needs → List D → Type 0
HasSmallOne pages needs devices = Any (λ d. pages d < needs.pages) devices

-- this many shards, of which each asks for this, can be opened over these devices, memory aside
pub record CanServe {D : Type 0} (size : ℕ) (pages : D → ℕ) (needs : Needs) (shards lease_slots : ℕ) (devices : List D) : Type 0 where
  pub has : HasDevices needs shards devices
  pub slots : 1 ≤ lease_slots
  pub page_size : IsPageSize size
  pub large : ¬ HasSmallOne pages needs devices

-- When each refusal of an opening comes whose numbers are in their ranges: the first of these tests that fails; want of memory
-- after all.
abbrev pub RefusesLanes : {D : Type 0} → ℕ → (D → ℕ) → Needs → ℕ → ℕ → List D → OpenServiceFault → Type 0
RefusesLanes size pages needs shards slots devices (ConfigFault field) = ⊥
RefusesLanes size pages needs shards slots devices Shards = ¬ AreShards shards
RefusesLanes size pages needs shards slots devices DeviceCount = AreShards shards × (length devices ≢ shards * needs.lanes)
RefusesLanes size pages needs shards slots devices NoLeaseSlots = HasDevices needs shards devices × (slots ≡ 0)
RefusesLanes size pages needs shards slots devices WrongPage = HasDevices needs shards devices × (1 ≤ slots) × (¬ IsPageSize size)
RefusesLanes size pages needs shards slots devices DeviceTooSmall =
    HasDevices needs shards devices × (1 ≤ slots) × IsPageSize size × HasSmallOne pages needs devices
RefusesLanes size pages needs shards slots devices OutOfMemory = CanServe size pages needs shards slots devices

-- a cache can be opened so over these devices, memory aside
pub record CanOpen {D : Type 0} (size : ℕ) (pages : D → ℕ) (config : Config) (shards lease_slots : ℕ) (devices : List D) : Type 0 where
  pub numbers : first_faulty config ≡ None
  pub serves : CanServe size pages (needs_of config) shards lease_slots devices

-- When each refusal of an opening comes: the first number that is out of its range; then as above.
abbrev pub RefusesOpening : {D : Type 0} → ℕ → (D → ℕ) → Config → ℕ → ℕ → List D → OpenServiceFault → Type 0
RefusesOpening size pages config shards slots devices (ConfigFault field) = first_faulty config ≡ Some field
RefusesOpening size pages config shards slots devices Shards =
    (first_faulty config ≡ None) × RefusesLanes size pages (needs_of config) shards slots devices Shards
RefusesOpening size pages config shards slots devices DeviceCount =
    (first_faulty config ≡ None) × RefusesLanes size pages (needs_of config) shards slots devices DeviceCount
RefusesOpening size pages config shards slots devices NoLeaseSlots =
    (first_faulty config ≡ None) × RefusesLanes size pages (needs_of config) shards slots devices NoLeaseSlots
RefusesOpening size pages config shards slots devices WrongPage =
    (first_faulty config ≡ None) × RefusesLanes size pages (needs_of config) shards slots devices WrongPage
RefusesOpening size pages config shards slots devices DeviceTooSmall =
    (first_faulty config ≡ None) × RefusesLanes size pages (needs_of config) shards slots devices DeviceTooSmall
RefusesOpening size pages config shards slots devices OutOfMemory =
    (first_faulty config ≡ None) × RefusesLanes size pages (needs_of config) shards slots devices OutOfMemory
