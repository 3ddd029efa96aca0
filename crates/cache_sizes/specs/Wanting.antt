-- What the sizes that are wanted come to.
use Rattle.std.specs.Prelude.{ℕ, ◌+◌, ◌*◌, ◌/◌, ◌≤◌}
use Rattle.cache_sizes.specs.declared.wanted.Wanted.{Wanted}
use Rattle.cache_sizes.specs.declared.limits.TheConstants.{MIN_FLASH_BYTES, MAX_ALL_LANES, MAX_OBJECT_BYTES, MAX_THREADS, PAGE_BYTES}
use Rattle.cache_sizes.specs.Lanes.{lanes_for_sets, lanes_wanted, shards_of, shard_lanes_of}
use Rattle.cache_sizes.specs.LanePages.{segment_pages_of, segments_of, sets_of}
use Rattle.cache_sizes.specs.Memory.{entries_of, lease_slots_of, lane_bytes_of, layer_bytes_of}

-- the pages of the flash that is wanted: as many as are whole
abbrev pub pages_of : Wanted → ℕ
pages_of w = w.flash_bytes / PAGE_BYTES

-- each number is in its range, whatever the memory
pub record IsInRange (w : Wanted) : Type 0 where
  pub flash_least : MIN_FLASH_BYTES ≤ w.flash_bytes
  pub flash_most : lanes_for_sets (pages_of w) ≤ MAX_ALL_LANES
  pub object_least : 1 ≤ w.object_bytes
  pub object_most : w.object_bytes ≤ MAX_OBJECT_BYTES
  pub threads_least : 1 ≤ w.threads
  pub threads_most : w.threads ≤ MAX_THREADS

-- the lanes that are wanted
abbrev pub lanes_of : Wanted → ℕ
lanes_of w = lanes_wanted (pages_of w) w.threads

-- the lanes that there are: those of all shards, which are as many or some more
unfoldable pub all_lanes_for : Wanted → ℕ
all_lanes_for w = shards_of (lanes_of w) * shard_lanes_of (lanes_of w)

-- the pages of a lane: each has as many
unfoldable pub lane_pages_for : Wanted → ℕ
lane_pages_for w = pages_of w / all_lanes_for w

-- the entries of the index of a lane's log
abbrev pub entries_for : Wanted → ℕ
entries_for w =
    let pages = lane_pages_for w in
    entries_of (segments_of pages) (segment_pages_of pages) w.object_bytes

-- the bytes of memory that all lanes take from the start
unfoldable pub fixed_bytes_for : Wanted → ℕ
fixed_bytes_for w =
    let pages = lane_pages_for w in
    let sets = sets_of pages in
    all_lanes_for w * lane_bytes_of sets (entries_for w) (segment_pages_of pages) (lease_slots_of sets)

-- the least memory: what all lanes take from the start, and one typical object in each
abbrev pub least_memory_for : Wanted → ℕ
least_memory_for w = fixed_bytes_for w + layer_bytes_of (all_lanes_for w) w.object_bytes
