-- Laws of what the log answers, in terms of its list of segments.
use Rattle.std.specs.Prelude.{◌≡◌, ◌≢◌, ◌⊎◌, ◌↔◌, ℕ, ◌+◌, ◌-◌, ◌<◌, ◌≤◌, ◌^◌, List, [], ◌∷◌, ◌++◌, length, map, take, reverse, filter, count_by, sum_by, slice_get, All, Option, Some, IsSome, MatchOption, true}
use Rattle.std.specs.Option.{option_map}
use Rattle.record_pages.specs.Recs.{Rec, size}
use Rattle.record_pages.specs.Sizes.{object_size, room, max_log_records}
use Rattle.klog_index.specs.Entries.{is_of}
use Rattle.klog.specs.declared.oldest.Oldest.{Oldest}
use Rattle.klog.specs.declared.oldest.Oldest.TheVariants as oldest
use Rattle.klog.specs.declared.taken_record.TakenRecord.{TakenRecord}
use Rattle.klog.specs.Log.{LogState}
use Rattle.klog.specs.Names.{segment_of}
use Rattle.klog.specs.Shown.{shown_on, live_on, newest_with, IsSpelledOn}
use Rattle.klog.specs.Keeps.{IsLog}
use Rattle.klog.specs.Append.{is_full}
use Rattle.klog.specs.Moves.{TellsOldest, most_taken, taken_of}
use Rattle.klog.specs.Segments.{LogRecord, Segment, Segments, live_record, segments_of, is_live, live_in, live_records}
use Rattle.klog.specs.Steps.{on_page}
use Rattle.klog.specs.SegmentLaws.{is_of_set}

-- ---- how many records a set has

-- as many entries are of a set as the list has live records of it
abbrev pub CountTellsLive : Type 0
CountTellsLive =
    (bytes : ℕ) (held : ℕ → Option (List ℕ)) (k : LogState) (set : ℕ)
    → IsLog k
    → IsSpelledOn bytes held k
    → count_by (is_of set) k.entries ≡ count_by (is_of_set k.shape set) (live_records (segments_of held k))

-- ---- what a look-up finds

-- of these records, this one is the last with the key: it has the key, and none after it has
pub record IsLastWith (key : List ℕ) (records : List LogRecord) (x : LogRecord) : Type 0 where
  pub before : List LogRecord
  pub after : List LogRecord
  pub split : records ≡ before ++ x ∷ after
  pub has : x.key ≡ key
  pub last : All (λ y. y.key ≢ key) after

-- this is the last of the records with the key; or if there is none, no record has the key
abbrev pub TellsLastWith : List ℕ → List LogRecord → Option LogRecord → Type 0
TellsLastWith key records found = MatchOption found (All (λ y. y.key ≢ key) records) (IsLastWith key records)

-- what a look-up for a key finds is the last live record of the list with that key, if it has one
abbrev pub LookFindsNewest : Type 0
LookFindsNewest =
    (held : ℕ → Option (List ℕ)) (k : LogState) (key : List ℕ)
    → IsLog k
    → TellsLastWith key (live_records (segments_of held k)) (option_map live_record (newest_with (live_on held k) key))

-- ---- what is taken of a set

-- a taken record as it stands on the list: live, in its slot
abbrev pub as_listed : TakenRecord → LogRecord
as_listed t = record { slot = t.place.slot; key = t.stored.key; value = t.stored.value; prediction = Some t.stored.pred }

-- what is taken of a set is, newest first, the last live records of the set on the list, at most 32
abbrev pub TakingGivesLast : Type 0
TakingGivesLast =
    (bytes : ℕ) (held : ℕ → Option (List ℕ)) (k : LogState) (set : ℕ)
    → IsLog k
    → IsSpelledOn bytes held k
    → map as_listed (taken_of k set (live_on held k)) ≡ take most_taken (reverse (filter (is_of_set k.shape set) (live_records (segments_of held k))))

-- ---- what is said of the oldest segment

-- this record, on this page, is the first live one of a segment: on no earlier page is one live, and on its page none before it
pub record IsFirstIn (s : Segment) (page : ℕ) (x : LogRecord) : Type 0 where
  pub pages_before : (p : ℕ) → p < page → filter is_live (on_page s.pages p) ≡ []
  pub behind : List LogRecord
  pub first : filter is_live (on_page s.pages page) ≡ x ∷ behind

-- what is said of the first of these segments: there is none; no record of it is live; or which entry is of it, with the
-- record that is its first live one
abbrev pub TellsFirst : (ℕ → Option (List ℕ)) → LogState → List Segment → Oldest → Type 0
TellsFirst held k stored oldest.NoSegment = stored ≡ []
TellsFirst held k stored oldest.Empty = (s : Segment) × (slice_get stored 0 ≡ Some s) × (live_in s ≡ [])
TellsFirst held k stored oldest.Passed = ⊥
TellsFirst held k stored (oldest.First e) =
    (s : Segment) × (r : Rec) × (slice_get stored 0 ≡ Some s) × (segment_of k e ≡ s.number) × (shown_on held k e ≡ Some r)
    × IsFirstIn s e.place.page (live_record (e, r))

-- what is said of the oldest segment, if no set is passed over, is so of the first segment on the device
abbrev pub OldestTellsFirst : Type 0
OldestTellsFirst =
    (bytes : ℕ) (held : ℕ → Option (List ℕ)) (k : LogState) (answer : Oldest)
    → IsLog k
    → IsSpelledOn bytes held k
    → TellsOldest [] k answer
    → TellsFirst held k (segments_of held k).stored answer

-- ---- whether a record finds a place

-- how many bytes a record takes on its page
abbrev pub bytes_of : LogRecord → ℕ
bytes_of x = object_size x.key x.value.value

-- a page of this many bytes, with these records, live or dead, takes this one too: its bytes fit, and there are not too many
pub record TakesOneMore (bytes : ℕ) (r : Rec) (records : List LogRecord) : Type 0 where
  pub fits : sum_by bytes_of records + size r ≤ room bytes
  pub few : length records < max_log_records

-- a segment that may have this many pages takes the record: on its last page, or on one page more
abbrev pub Takes : ℕ → ℕ → Rec → Segment → Type 0
Takes bytes count r s = ((0 < length s.pages) × TakesOneMore bytes r (on_page s.pages (length s.pages - 1))) ⊎ (length s.pages < count)

-- no segment takes the record: the filled one has no room for it, and can't be sealed, since one is flushed or since the
-- next number would pass 2^62; or its own number passes 2^62
abbrev pub NoneTakes : ℕ → ℕ → Rec → Segments → Type 0
NoneTakes bytes count r l =
    ((¬ Takes bytes count r l.filling) × (IsSome l.flushing ⊎ (2 ^ 62 < l.filling.number + 1))) ⊎ (2 ^ 62 < l.filling.number)

-- the log is full for a record exactly when none of the list's segments takes it
abbrev pub FullWhereNoneTakes : Type 0
FullWhereNoneTakes =
    (bytes : ℕ) (held : ℕ → Option (List ℕ)) (k : LogState) (r : Rec)
    → (is_full bytes k r ≡ true) ↔ NoneTakes bytes k.shape.segment_pages r (segments_of held k)
