-- What a shape takes and holds, its configuration, and the shape for what is wanted.
use Rattle.std.specs.Prelude.{◌≡◌, ℕ, ◌+◌, ◌*◌, ◌/◌, ◌≤◌, min, None}
use Rattle.record_pages.specs.declared.config.Config.{Config}
use Rattle.record_pages.specs.declared.limits.TheConstants.{MAX_THRESHOLD, MAX_ADMIT}
use Rattle.record_pages.specs.Table.{first_faulty}
use Rattle.cache_sizes.specs.declared.wanted.Wanted.{Wanted}
use Rattle.cache_sizes.specs.declared.shape.Shape.{Shape}
use Rattle.cache_sizes.specs.declared.limits.TheConstants.{MAX_OBJECT_BYTES, PAGE_BYTES}
use Rattle.cache_sizes.specs.declared.proportions.TheConstants.{FULL_PERCENT}
use Rattle.cache_sizes.specs.Records.{set_records, log_records}
use Rattle.cache_sizes.specs.Lanes.{shards_of, shard_lanes_of}
use Rattle.cache_sizes.specs.LanePages.{segment_pages_of, segments_of, sets_of}
use Rattle.cache_sizes.specs.Memory.{lane_bytes_of, layer_bytes_of, lease_slots_of, memory_of}
use Rattle.cache_sizes.specs.Wanting.{lanes_of, lane_pages_for, all_lanes_for, entries_for, fixed_bytes_for}

-- the lanes of all shards
abbrev pub all_lanes_of : Shape → ℕ
all_lanes_of s = s.shards * s.lanes

-- the pages of a lane's file: one for each set, and those of the log, which has segments of this many pages
abbrev pub file_pages : ℕ → ℕ → ℕ → ℕ
file_pages sets segments segment_pages = sets + segments * segment_pages

abbrev pub file_pages_of : Shape → ℕ
file_pages_of s = file_pages s.sets s.segments s.segment_pages

-- the pages of all files: each lane has one
abbrev pub flash_pages_of : Shape → ℕ
flash_pages_of s = all_lanes_of s * file_pages_of s

-- the bytes of all files
abbrev pub flash_bytes_of : Shape → ℕ
flash_bytes_of s = flash_pages_of s * PAGE_BYTES

-- the bytes that an object can have: no more than the most
abbrev pub possible_bytes : ℕ → ℕ
possible_bytes object_bytes = min object_bytes MAX_OBJECT_BYTES

-- the bytes of memory that all lanes take from the start
abbrev pub fixed_bytes_of : Shape → ℕ
fixed_bytes_of s = all_lanes_of s * lane_bytes_of s.sets s.entries s.segment_pages s.lease_slots

-- the bytes of memory that all lanes take once they are full of typical objects
abbrev pub memory_bytes_of : Shape → ℕ → ℕ
memory_bytes_of s object_bytes =
    fixed_bytes_of s + s.memory * layer_bytes_of (all_lanes_of s) (possible_bytes object_bytes)

-- the objects that fit in memory
abbrev pub objects_in_memory_of : Shape → ℕ
objects_in_memory_of s = all_lanes_of s * s.memory

-- the typical objects that fit in the logs: as many as have room on their pages, and an entry in their indexes
abbrev pub objects_in_logs_of : Shape → ℕ → ℕ
objects_in_logs_of s object_bytes =
    all_lanes_of s * min (s.segments * s.segment_pages * log_records (possible_bytes object_bytes)) s.entries

-- the typical objects that fit in the sets: 93 of 100 that have room on their pages, since keys fall into sets by chance, and
-- if there are more, many find their set full
abbrev pub objects_in_sets_of : Shape → ℕ → ℕ
objects_in_sets_of s object_bytes = FULL_PERCENT * (all_lanes_of s * s.sets * set_records (possible_bytes object_bytes)) / 100

-- the typical objects that fit in all
abbrev pub objects_of : Shape → ℕ → ℕ
objects_of s object_bytes = objects_in_memory_of s + objects_in_logs_of s object_bytes + objects_in_sets_of s object_bytes

-- the configuration of a shard
abbrev pub config_of : Shape → ℕ → ℕ → Config
config_of s threshold admit = record {
  lanes = s.lanes;
  sets = s.sets;
  memory = s.memory;
  segments = s.segments;
  segment_pages = s.segment_pages;
  entries = s.entries;
  threshold = threshold;
  admit = admit;
}

-- the two numbers of a configuration that are no sizes are in their ranges
abbrev pub AreInRange : ℕ → ℕ → Type 0
AreInRange threshold admit = (1 ≤ threshold) × (threshold ≤ MAX_THRESHOLD) × (admit ≤ MAX_ADMIT)

-- with such numbers the configuration has no fault
abbrev pub IsAccepted : Shape → Type 0
IsAccepted s = (threshold admit : ℕ) → AreInRange threshold admit → first_faulty (config_of s threshold admit) ≡ None

-- the shape has the lanes that are wanted, and each of them what its pages come to
pub record HasPartsFor (w : Wanted) (s : Shape) : Type 0 where
  pub shards : s.shards ≡ shards_of (lanes_of w)
  pub lanes : s.lanes ≡ shard_lanes_of (lanes_of w)
  pub sets : s.sets ≡ sets_of (lane_pages_for w)
  pub segments : s.segments ≡ segments_of (lane_pages_for w)
  pub segment_pages : s.segment_pages ≡ segment_pages_of (lane_pages_for w)
  pub entries : s.entries ≡ entries_for w
  pub lease_slots : s.lease_slots ≡ lease_slots_of s.sets

-- the shape has these parts, and in memory as many objects as there is room for
pub record IsShapeFor (w : Wanted) (s : Shape) : Type 0 where
  pub parts : HasPartsFor w s
  pub memory : s.memory ≡ memory_of w.memory_bytes (fixed_bytes_for w) (all_lanes_for w) w.object_bytes
