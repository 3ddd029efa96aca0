-- When a lane opens, and what it is then.
use Rattle.std.specs.Prelude.{◌≡◌, ◌≤◌, ℕ, None}
use Rattle.record_pages.specs.Asked.{HasNumbersOf}
use Rattle.record_pages.specs.declared.layout.Layout.{Layout}
use Rattle.cache_sizes.specs.Shapes.{file_pages}
use Rattle.page_device.specs.Counting.{no_device_counts}
use Rattle.key_hash.specs.Hashing.{derived}
use Rattle.service_lane.specs.Serving.{OpensServing}
use Rattle.service_lane.specs.Words.{words_for}
use Rattle.c_lane.specs.declared.lane_shape.LaneShape.{LaneShape}
use Rattle.c_lane.specs.declared.seed.Seed.{Seed}
use Rattle.c_lane.specs.declared.status.Status.{Status}
use Rattle.c_lane.specs.declared.status.Status.TheVariants as statuses
use Rattle.c_lane.specs.Lane.{LaneState}
use Rattle.c_lane.specs.Placing.{seed_of}
use Rattle.c_lane.specs.Shapes.{config_of, first_faulty_field}

-- a lane was opened over this device: it is empty, nothing was asked of it, and the device is as it was
pub record Opens {D : Type 0} (s : LaneShape) (seed : Seed) (number : ℕ) (device : D) (lane : LaneState D) : Type 0 where
  pub layout : Layout
  pub numbers : HasNumbersOf layout (config_of s)
  pub serving : OpensServing layout s.lease_slots s.bring_back number (derived (seed_of seed) number) (record { device = device; counts = no_device_counts }) lane.serving
  pub words : lane.words ≡ words_for (seed_of seed) number

-- a lane of a shape can be opened over this many pages, memory aside
pub record CanOpen (s : LaneShape) (pages : ℕ) : Type 0 where
  pub numbers : first_faulty_field s ≡ None
  pub enough : file_pages s.sets s.segments s.segment_pages ≤ pages

-- When each refusal comes, over this many pages.
abbrev pub RefusesOpening : LaneShape → ℕ → Status → Type 0
RefusesOpening s pages statuses.WrongOptions = ¬ CanOpen s pages
RefusesOpening s pages statuses.NoMemory = CanOpen s pages
RefusesOpening s pages status = ⊥
