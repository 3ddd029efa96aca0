-- How many lanes a cache has, and their shards.
use Rattle.std.specs.Prelude.{ℕ, ◌*◌, ◌/◌, max, min}
use Rattle.std.specs.Int.{div_ceil}
use Rattle.record_pages.specs.declared.limits.TheConstants.{MAX_LANES}
use Rattle.cache_sizes.specs.declared.limits.TheConstants.{MAX_ODD_SETS, MAX_ALL_LANES}
use Rattle.cache_sizes.specs.declared.proportions.TheConstants.{SETS_PERCENT, LANES_FOR_THREAD, LEAST_LANE_PAGES}

-- the lanes that the sets on this many pages need: 95 pages of 100 are of sets
unfoldable pub lanes_for_sets : ℕ → ℕ
lanes_for_sets pages = div_ceil (SETS_PERCENT * pages) (100 * MAX_ODD_SETS)

-- the lanes that are wanted: as many as the sets need, and 16 for each thread, up to the most, so that two threads seldom want
-- one lane; but for the threads' sake none of fewer than 1,024 pages
unfoldable pub lanes_wanted : ℕ → ℕ → ℕ
lanes_wanted pages threads = max (lanes_for_sets pages) (min (min (LANES_FOR_THREAD * threads) MAX_ALL_LANES) (max 1 (pages / LEAST_LANE_PAGES)))

-- the shards of this many lanes: as few as hold them
unfoldable pub shards_of : ℕ → ℕ
shards_of lanes = div_ceil lanes MAX_LANES

-- the lanes of each shard: all of them, up to the most of a shard
unfoldable pub shard_lanes_of : ℕ → ℕ
shard_lanes_of lanes = min lanes MAX_LANES
