-- The entry with which a move begins.
use Rattle.std.specs.Prelude.{ℕ, List, Option, Some, None, Bool, ◌&&◌, ◌||◌, ◌==◌, not, find, nat_lt, if◌then◌else◌}
use Rattle.std.specs.List.{list_any}
use Rattle.std.specs.Option.{option_map}
use Rattle.record_pages.specs.Recs.{Rec}
use Rattle.klog_index.specs.declared.entry.Entry.{Entry}
use Rattle.klog_index.specs.declared.place.Place.{Place}
use Rattle.klog_index.specs.Entries.{is_in, is_of_any, is_of_segment, without}
use Rattle.klog.specs.declared.oldest.Oldest.{Oldest}
use Rattle.klog.specs.declared.oldest.Oldest.TheVariants as oldest
use Rattle.klog.specs.Log.{LogState}
use Rattle.klog.specs.Names.{name_of}

-- a place lies on an earlier page than another, or before it on the same page
abbrev pub is_before : Place → Place → Bool
is_before p q = nat_lt p.page q.page || p.page == q.page && nat_lt p.slot q.slot

-- an entry of the segment with this name, with none of that segment before it
abbrev pub is_first : ℕ → List Entry → Entry → Bool
is_first segment es e =
    e.place.segment == segment && not (list_any (λ x. x.place.segment == segment && is_before x.place e.place) es)

-- the entry of least page, then slot, of the segment with this name
abbrev pub first_in : ℕ → List Entry → Option Entry
first_in segment es = find (is_first segment es) es

-- the first entry that is not passed over, or that all are
abbrev pub told_first : Option Entry → Oldest
told_first None = oldest.Passed
told_first (Some e) = oldest.First e

-- what is live in the segment with this name, if entries of these sets are passed over: nothing, or those alone, or
-- which is the first of the others
abbrev pub live_in : ℕ → List ℕ → List Entry → Oldest
live_in segment passed es =
    if list_any (is_of_segment segment) es then told_first (first_in segment (without (is_of_any passed) es)) else oldest.Empty

-- the same of the oldest segment on the device, if there is one
abbrev pub oldest_in : List ℕ → LogState → Oldest
oldest_in passed k = if k.stored == 0 then oldest.NoSegment else live_in (name_of k k.first) passed k.entries

-- the record of an entry among live ones
abbrev pub record_of : Entry → List (Entry × Rec) → Option Rec
record_of e live = option_map (λ x. x.1) (find (λ x. is_in e.set e.place x.0) live)
