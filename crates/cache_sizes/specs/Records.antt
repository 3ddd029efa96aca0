-- How many records lie on a page, and how many move to one together.
use Rattle.std.specs.Prelude.{ℕ, ◌+◌, ◌/◌, min, nat_lt, if◌then◌else◌}
use Rattle.record_pages.specs.Sizes.{room}
use Rattle.record_pages.specs.declared.object.TheConstants.{RECORD_OVERHEAD, MAX_SET_RECORDS, MAX_LOG_RECORDS}
use Rattle.cache_sizes.specs.declared.limits.TheConstants.{PAGE_BYTES}
use Rattle.cache_sizes.specs.declared.proportions.TheConstants.{FEW_RECORDS, USUAL_THRESHOLD}

-- the records on a page of a set: as many as have room, each with what it takes beside its object, up to the most of such a page
unfoldable pub set_records : ℕ → ℕ
set_records object_bytes = min (room PAGE_BYTES / (RECORD_OVERHEAD + object_bytes)) MAX_SET_RECORDS

-- the records on a page of the log: as many, up to the most of such a page
unfoldable pub log_records : ℕ → ℕ
log_records object_bytes = min (set_records object_bytes) MAX_LOG_RECORDS

-- the fewest objects that move to a set together: one if a set has room for few of this many bytes, else two
unfoldable pub threshold_of : ℕ → ℕ
threshold_of object_bytes = if nat_lt (set_records object_bytes) FEW_RECORDS then 1 else USUAL_THRESHOLD
