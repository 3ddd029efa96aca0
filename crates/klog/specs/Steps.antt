-- The plain steps of a log that is a list of segments.
use Rattle.std.specs.Prelude.{ℕ, ◌+◌, ◌-◌, List, [], ◌∷◌, ◌++◌, map, filter, drop, length, slice_set, slice_index_or, Option, Some, None, Bool, not, ◌==◌, if◌then◌else◌}
use Rattle.std.specs.List.{range_with_len}
use Rattle.std.specs.Option.{option_map}
use Rattle.klog.specs.Segments.{LogRecord, Segment, FlushingSegment, Segments, numbered, is_live}

-- the records that die, by the numbers of their segment and page
abbrev pub Dying : Type 0
Dying = ℕ → ℕ → LogRecord → Bool

-- the records of a page
abbrev pub on_page : List (List LogRecord) → ℕ → List LogRecord
on_page pages page = slice_index_or pages page []

-- a dead record
abbrev pub dead : LogRecord → LogRecord
dead x = record x { prediction = None }

-- a segment on the device in which these records die: they are no longer listed
abbrev pub killed_stored : Dying → Segment → Segment
killed_stored dies s = record s { pages = numbered (λ page xs. filter (λ x. not (dies s.number page x)) xs) 0 s.pages }

-- a segment in memory in which these records die: they stand there still, dead
abbrev pub killed_buffered : Dying → Segment → Segment
killed_buffered dies s = record s { pages = numbered (λ page xs. map (λ x. if dies s.number page x then dead x else x) xs) 0 s.pages }

-- the same of the segment that is flushed
abbrev pub killed_flushing : Dying → FlushingSegment → FlushingSegment
killed_flushing dies f = record f { segment = killed_buffered dies f.segment }

-- these records die
abbrev pub killed : Dying → Segments → Segments
killed dies l = record {
  stored = map (killed_stored dies) l.stored;
  flushing = option_map (killed_flushing dies) l.flushing;
  filling = killed_buffered dies l.filling;
}

-- the segment that was filled is flushed, and an empty one with the next number is filled
abbrev pub now_flushing : Segments → Segments
now_flushing l = record {
  stored = l.stored;
  flushing = Some (record { segment = l.filling; done = 0 });
  filling = record { number = l.filling.number + 1; pages = [] };
}

-- a segment as it lies on the device, if a segment has this many pages: its dead records are no longer listed
abbrev pub on_device : ℕ → Segment → Segment
on_device count s = record s { pages = map (λ page. filter is_live (on_page s.pages page)) (range_with_len 0 count) }

-- one more page of this segment was written or lost; after the last one the segment is on the device
abbrev pub page_done : ℕ → Segments → Option FlushingSegment → Segments
page_done count l None = l
page_done count l (Some f) =
    if f.done + 1 == length f.segment.pages then record l { stored = l.stored ++ on_device count f.segment ∷ []; flushing = None }
    else record l { flushing = Some (record f { done = f.done + 1 }) }

-- a record is put last in the segment that is filled, on its last page or on a new one
abbrev pub put_last : Bool → LogRecord → Segment → Segment
put_last is_here x s = record s {
  pages =
      if is_here then slice_set s.pages (length s.pages - 1) (on_page s.pages (length s.pages - 1) ++ x ∷ [])
      else (s.pages ++ (x ∷ []) ∷ []);
}

-- the same of all segments
abbrev pub with_last : Bool → LogRecord → Segments → Segments
with_last is_here x l = record l { filling = put_last is_here x l.filling }

-- the oldest segment is gone
abbrev pub without_oldest : Segments → Segments
without_oldest l = record l { stored = drop 1 l.stored }
