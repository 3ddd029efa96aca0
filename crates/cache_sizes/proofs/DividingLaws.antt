-- Laws on how pages are divided between lanes, and a lane's between its sets and its log.
use Rattle.std.proofs.Common.{ℕ, ◌+◌, ◌*◌, ◌/◌, ◌≤◌, max, min, inl, inr, arith}
use Rattle.std.proofs.Math.Nat.{div-mul-le_self, mul-le-mul_right}
use Rattle.std.proofs.lemmas.Bool.{cases_lt}
use Rattle.std.proofs.lemmas.Nat.{le-div, mul-le}
use Rattle.std.specs.Int.{div_ceil}
use Rattle.record_pages.specs.declared.limits.TheConstants.{MAX_LANES}
use Rattle.cache_sizes.specs.declared.proportions.TheConstants.{LEAST_LANE_PAGES, USUAL_SEGMENTS}
use Rattle.cache_sizes.specs.Lanes.{lanes_wanted, lanes_for_sets, shards_of, shard_lanes_of}
use Rattle.cache_sizes.specs.LanePages.{log_share, segment_pages_of, segments_of}

-- a number up to the greater of two, taken so many times, is at most what each of the two gives
below_both : (n a b s g : ℕ) → n ≤ max a b → a * s ≤ g → b * s ≤ g → n * s ≤ g
below_both n a b s g h p q =
    elim (cases_lt a n) [
      | inl above ↦ omega (arith, mul-le-mul_right {m = n} {n = b} s (omega arith))
      | inr below ↦ omega (arith, mul-le-mul_right {m = n} {n = a} s below)
    ]

-- a log of n segments of s pages, with g pages as its share, has at most that, or two
short_log : (g s n : ℕ) → s ≤ max 1 (g / USUAL_SEGMENTS) → n ≤ max 2 (g / s) → n * s ≤ max 2 g
short_log g s n hs hn = below_both n 2 (g / s) s (max 2 g) hn (omega arith) (omega (arith, div-mul-le_self g s))

-- the log leaves a page for a set
pub log_leaves_a_page : (pages : ℕ) → 3 ≤ pages → 1 + segments_of pages * segment_pages_of pages ≤ pages
unfolding segments_of segment_pages_of
log_leaves_a_page pages h =
    omega (arith, short_log (log_share pages) (segment_pages_of pages) (segments_of pages) (omega arith) (omega arith))

-- the lanes that are wanted have 1,024 pages each, or there is but one
pub lanes_are_wide : (pages threads : ℕ) → lanes_wanted pages threads * LEAST_LANE_PAGES ≤ max LEAST_LANE_PAGES pages
unfolding lanes_wanted lanes_for_sets
lanes_are_wide pages threads = omega arith

-- all shards have fewer than twice the lanes that are wanted
pub few_lanes : (lanes : ℕ) → 1 ≤ lanes → shards_of lanes * shard_lanes_of lanes + 1 ≤ 2 * lanes
unfolding shards_of shard_lanes_of
few_lanes lanes h =
    let shards = div_ceil lanes MAX_LANES in
    let each = min lanes MAX_LANES in
    elim (cases_lt MAX_LANES lanes) [
      | inl many ↦ omega (arith, mul-le shards each shards MAX_LANES (omega arith) (omega arith))
      | inr few ↦ omega (arith, mul-le shards each 1 lanes (omega arith) (omega arith))
    ]

-- each of them has three pages, if there are three
pub lanes_have_pages : (pages lanes all : ℕ) → 3 ≤ pages → 1 ≤ lanes → lanes * 1024 ≤ max 1024 pages → 1 ≤ all → all + 1 ≤ 2 * lanes → 3 ≤ pages / all
lanes_have_pages pages lanes all h some wide least few = le-div 3 pages all least (omega arith)
