-- What a lane has in memory, and the bytes that it takes there, which are an estimate.
use Rattle.std.specs.Prelude.{ℕ, ◌+◌, ◌-◌, ◌*◌, ◌/◌, max, min}
use Rattle.std.specs.Int.{div_ceil}
use Rattle.record_pages.specs.declared.limits.TheConstants.{MAX_ENTRIES, MAX_MEMORY}
use Rattle.cache_sizes.specs.Records.{log_records}
use Rattle.cache_sizes.specs.declared.limits.TheConstants.{MIN_LEASE_SLOTS, MIN_STRIKES}
use Rattle.cache_sizes.specs.declared.proportions.TheConstants.{ENTRIES_FOR_8_RECORDS, SETS_FOR_LEASE_SLOT, STRIKES_FOR_SET}
use Rattle.cache_sizes.specs.declared.estimates.TheConstants.{ESTIMATED_SET_BYTES, ESTIMATED_ENTRY_BYTES, ESTIMATED_SEGMENT_PAGE_BYTES, ESTIMATED_LEASE_SLOT_BYTES, ESTIMATED_LANE_BYTES, ESTIMATED_OBJECT_BYTES}

-- the entries of the log's index: one for each record in the segments and in two buffers, and an eighth more, since objects that
-- are smaller than the typical one lie closer
unfoldable pub entries_of : ℕ → ℕ → ℕ → ℕ
entries_of segments segment_pages object_bytes =
    min (div_ceil (ENTRIES_FOR_8_RECORDS * ((segments + 2) * segment_pages * log_records object_bytes)) 8) MAX_ENTRIES

-- the slots for leases: one for four sets, so that their number grows with that of the keys, and no fewer than a small lane wants
unfoldable pub lease_slots_of : ℕ → ℕ
lease_slots_of sets = max MIN_LEASE_SLOTS (sets / SETS_FOR_LEASE_SLOT)

-- the strikes that a lane which serves has room for: two a set, and no fewer than a small lane wants
unfoldable pub strikes_of : ℕ → ℕ
strikes_of sets = max MIN_STRIKES (STRIKES_FOR_SET * sets)

-- the bytes that a lane takes from the start: those of its sets, of its log's index and buffers, of its slots, and the rest
unfoldable pub lane_bytes_of : ℕ → ℕ → ℕ → ℕ → ℕ
lane_bytes_of sets entries segment_pages lease_slots =
    ESTIMATED_SET_BYTES * sets
    + ESTIMATED_ENTRY_BYTES * entries
    + ESTIMATED_SEGMENT_PAGE_BYTES * segment_pages
    + ESTIMATED_LEASE_SLOT_BYTES * lease_slots
    + ESTIMATED_LANE_BYTES

-- the bytes that an object takes in memory, one in each of this many lanes
unfoldable pub layer_bytes_of : ℕ → ℕ → ℕ
layer_bytes_of lanes object_bytes = lanes * (object_bytes + ESTIMATED_OBJECT_BYTES)

-- the objects of each lane in memory: as many as what is not fixed has room for, up to the most
unfoldable pub memory_of : ℕ → ℕ → ℕ → ℕ → ℕ
memory_of memory_bytes fixed_bytes lanes object_bytes =
    min ((memory_bytes - fixed_bytes) / layer_bytes_of lanes object_bytes) MAX_MEMORY
