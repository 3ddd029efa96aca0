-- The log as a list of segments, each a list of pages, each a list of records.
use Rattle.std.specs.Prelude.{ℕ, ◌+◌, List, [], ◌∷◌, ◌++◌, map, reverse, filter, find, Option, Some, None, Bool, is_some, if◌then◌else◌}
use Rattle.std.specs.List.{flat_map, range_with_len}
use Rattle.std.specs.Option.{option_map}
use Rattle.record_pages.specs.Recs.{Rec}
use Rattle.klog_index.specs.declared.entry.Entry.{Entry}
use Rattle.klog_index.specs.declared.place.Place.{Place}
use Rattle.klog_index.specs.Entries.{is_at, is_on}
use Rattle.klog.specs.Log.{LogState}
use Rattle.klog.specs.Names.{name_of, flushed_number, filled_number}
use Rattle.klog.specs.Shown.{live_on}
use Rattle.record_pages.specs.declared.timed_value.TimedValue.{TimedValue}

-- a record of the log: its slot on its page, its key and value, and its prediction while it is live; a dead one has none
pub record LogRecord : Type 0 where
  pub slot : ℕ
  pub key : List ℕ
  pub value : TimedValue
  pub prediction : Option ℕ

-- a segment: its number, and its pages, each with its records in the order in which they entered
pub record Segment : Type 0 where
  pub number : ℕ
  pub pages : List (List LogRecord)

-- a segment that is being flushed, and how many of its pages were written or lost
pub record FlushingSegment : Type 0 where
  pub segment : Segment
  pub done : ℕ

-- The segments of a log, oldest first: those on the device, then at most one that is flushed, then the one that is
-- filled. What is dead on the device is no longer told apart: of the segments there the live records alone are listed,
-- on as many pages as a segment has there.
pub record Segments : Type 0 where
  pub stored : List Segment
  pub flushing : Option FlushingSegment
  pub filling : Segment

-- a list of things, each seen by its number, from this one on
abbrev pub numbered : {X Y : Type 0} → (ℕ → X → Y) → ℕ → List X → List Y
numbered f n [] = []
numbered f n (x ∷ xs) = f n x ∷ numbered f (n + 1) xs

-- a live record of the log
abbrev pub live_record : Entry × Rec → LogRecord
live_record x = record { slot = x.0.place.slot; key = x.1.key; value = x.1.value; prediction = Some x.0.prediction }

-- the live records of a page of the segment with this name, of live records that stand newest first
abbrev pub live_page : List (Entry × Rec) → ℕ → ℕ → List LogRecord
live_page live name page = map live_record (reverse (filter (λ x. is_on name page x.0) live))

-- a segment on the device: the live records of this many pages
abbrev pub stored_segment : (ℕ → Option (List ℕ)) → LogState → ℕ → Segment
stored_segment held k number = record {
  number = number;
  pages = map (λ page. live_page (live_on held k) (name_of k number) page) (range_with_len 0 k.shape.segment_pages);
}

-- a record in a buffer: live, with its entry's prediction, if an entry lies at its place, and dead otherwise
abbrev pub buffered_record : List Entry → Place → Rec → LogRecord
buffered_record es place r = record {
  slot = place.slot;
  key = r.key;
  value = r.value;
  prediction = option_map (λ e. e.prediction) (find (is_at place) es);
}

-- the records of a page in a buffer
abbrev pub buffered_page : List Entry → ℕ → ℕ → List Rec → List LogRecord
buffered_page es name page rs = numbered (λ slot r. buffered_record es (record { segment = name; page = page; slot = slot }) r) 0 rs

-- a segment in a buffer: all its records
abbrev pub buffered_segment : LogState → ℕ → List (List Rec) → Segment
buffered_segment k number pages = record { number = number; pages = numbered (buffered_page k.entries (name_of k number)) 0 pages }

-- the segments of a log, over what the device's pages are known to hold
abbrev pub segments_of : (ℕ → Option (List ℕ)) → LogState → Segments
segments_of held k = record {
  stored = map (stored_segment held k) (range_with_len k.first k.stored);
  flushing =
      if k.is_flushing then Some (record { segment = buffered_segment k (flushed_number k) k.flushing; done = k.done }) else None;
  filling = buffered_segment k (filled_number k) k.filling;
}

-- the segment that is flushed, if there is one
abbrev pub flushed_ones : Option FlushingSegment → List Segment
flushed_ones None = []
flushed_ones (Some f) = f.segment ∷ []

-- all segments, oldest first
abbrev pub all_segments : Segments → List Segment
all_segments l = l.stored ++ (flushed_ones l.flushing ++ l.filling ∷ [])

-- the record is live
abbrev pub is_live : LogRecord → Bool
is_live x = is_some x.prediction

-- the records of a segment, in the order in which they entered
abbrev pub records_in : Segment → List LogRecord
records_in s = flat_map (λ page. page) s.pages

-- the live records of a segment
abbrev pub live_in : Segment → List LogRecord
live_in s = filter is_live (records_in s)

-- the live records of a log, newest last
abbrev pub live_records : Segments → List LogRecord
live_records l = flat_map live_in (all_segments l)
