-- Which lane the keys of a cache have, and which lanes have an honest device.
use Rattle.std.specs.Prelude.{◌≡◌, ℕ, ◌*◌, ◌/◌, ◌^◌, List, Bool, false, IsTrue, Some, slice_get}
use Rattle.std.specs.Option.{option_map_or}
use Rattle.key_hash.specs.declared.random_seed.RandomSeed.{RandomSeed}
use Rattle.service_lane.specs.Leases.{hash_by}

-- a number below 2^32 scaled to one below this count
abbrev pub scaled : ℕ → ℕ → ℕ
scaled number count = count * number / 2 ^ 32

-- the lane of a key among this many: by the high half of its hash, which is scaled to their number
abbrev pub lane_by : RandomSeed → ℕ → List ℕ → ℕ
lane_by seed count key = scaled (hash_by seed key / 2 ^ 32) count

-- each device whose lane, by its place among the devices, is said to be honest is honest
abbrev pub AreAsSaid : {D : Type 0} → (ℕ → Bool) → (D → Bool) → List D → Type 0
AreAsSaid {D} said honest devices = (number : ℕ) (device : D) → slice_get devices number ≡ Some device → IsTrue (said number) → IsTrue (honest device)

-- whether the device of a lane is honest, by the devices in the order of their lanes
abbrev pub honest_by : {D : Type 0} → (D → Bool) → List D → ℕ → Bool
honest_by honest devices number = option_map_or honest (slice_get devices number) false

-- a book sorts keys by this seed into this many lanes
pub record SortsBy (lanes : ℕ) (lane_of : List ℕ → ℕ) (seed : RandomSeed) (count : ℕ) : Type 0 where
  pub one_each : lanes ≡ count
  pub sorted : (key : List ℕ) → lane_of key ≡ lane_by seed count key
