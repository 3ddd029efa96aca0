-- What is due in a lane, by how full its log is.
use Rattle.std.specs.Prelude.{ℕ, ◌*◌, ◌/◌, max, nat_lt, Bool, ◌&&◌, ◌||◌, Option, Some, None, is_some, if◌then◌else◌}
use Rattle.klog.specs.declared.log_usage.LogUsage.{LogUsage}
use Rattle.service_lane.specs.declared.due.Due.{Due}
use Rattle.service_lane.specs.declared.due.Due.TheVariants.{Flush, Move}

-- this many places for segments are to be free: one of 16, and one at least
abbrev pub least_free : LogUsage → ℕ
least_free u = max 1 (u.segments / 16)

-- more than so many of so many live records that may be there are
abbrev pub has_above : ℕ → ℕ → LogUsage → Bool
has_above part whole u = nat_lt (part * u.limit) (whole * u.live)

-- a page can be written: a segment is flushed, and has a place
abbrev pub can_flush : LogUsage → Bool
can_flush u = u.is_flushing && nat_lt 0 u.free_segments

-- too few places are free, or too many records are live
abbrev pub is_short : LogUsage → Bool
is_short u = nat_lt u.free_segments (least_free u) || has_above 15 16 u

-- records are to move: a segment lies on the device, and the log is short
abbrev pub wants_move : LogUsage → Bool
wants_move u = nat_lt u.free_segments u.segments && is_short u

-- what is due: a page before a move
abbrev pub due_of : LogUsage → Option Due
due_of u = if can_flush u then Some Flush else if wants_move u then Some Move else None

-- a segment is flushed, and more than 3 of 4 pages of the one that is filled hold records
abbrev pub is_nearly_filled : LogUsage → Bool
is_nearly_filled u = u.is_flushing && nat_lt (3 * u.segment_pages) (4 * u.filled_pages)

-- something is due, and there is little room left
abbrev pub is_near_end : LogUsage → Bool
is_near_end u = is_some (due_of u) && (is_nearly_filled u || has_above 31 32 u)
