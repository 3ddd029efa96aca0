-- How the pages of a lane are divided between its sets and its log.
use Rattle.std.specs.Prelude.{ℕ, ◌-◌, ◌*◌, ◌/◌, ◌%◌, ◌==◌, max, min, if◌then◌else◌}
use Rattle.record_pages.specs.declared.limits.TheConstants.{MIN_SEGMENTS, MAX_SEGMENTS, MAX_SEGMENT_PAGES}
use Rattle.cache_sizes.specs.declared.limits.TheConstants.{MAX_ODD_SETS}
use Rattle.cache_sizes.specs.declared.proportions.TheConstants.{PAGES_FOR_LOG_PAGE, USUAL_SEGMENTS}

-- the pages that are the log's share: one of 20, enough for several objects of a set to meet in it and move together
abbrev pub log_share : ℕ → ℕ
log_share pages = pages / PAGES_FOR_LOG_PAGE

-- the pages of a segment: so many that the log has some 128 segments, for a segment is in memory while it is filled
unfoldable pub segment_pages_of : ℕ → ℕ
segment_pages_of pages = max 1 (min (log_share pages / USUAL_SEGMENTS) MAX_SEGMENT_PAGES)

-- the segments of the log: as many as its share makes
unfoldable pub segments_of : ℕ → ℕ
segments_of pages = max MIN_SEGMENTS (min (log_share pages / segment_pages_of pages) MAX_SEGMENTS)

-- the pages of the log: those of all its segments
abbrev pub log_pages_of : ℕ → ℕ
log_pages_of pages = segments_of pages * segment_pages_of pages

-- the number, or one less if it is even: a set and the bits of its filter come from one hash, and an odd number of sets keeps
-- them apart
abbrev pub odd_of : ℕ → ℕ
odd_of number = if number % 2 == 0 then number - 1 else number

-- the sets: as many as the log leaves pages, up to the greatest odd number that a lane may have
unfoldable pub sets_of : ℕ → ℕ
sets_of pages = odd_of (min (pages - log_pages_of pages) MAX_ODD_SETS)
