-- Laws of the log's calls, as plain steps of its list of segments.
use Rattle.std.specs.Prelude.{◌≡◌, ℕ, ◌≤◌, List, [], map, reverse, Option, Some, Bool, false, ◌==◌, ◌&&◌, if◌then◌else◌}
use Rattle.std.specs.List.{list_any}
use Rattle.record_pages.specs.Sizes.{entering_prediction}
use Rattle.record_pages.specs.Recs.{Rec}
use Rattle.klog_index.specs.declared.entry.Entry.{Entry}
use Rattle.klog_index.specs.declared.place.Place.{Place}
use Rattle.klog_index.specs.Entries.{has_tag, is_place, without}
use Rattle.klog.specs.declared.oldest.Oldest.TheVariants as oldest
use Rattle.klog.specs.declared.taken_record.TakenRecord.{TakenRecord}
use Rattle.klog.specs.Buffer.{fits_here, can_add, slot_for}
use Rattle.klog.specs.Log.{Shape, LogState, with_list, filling_buffer}
use Rattle.klog.specs.Names.{name_of, filled_number}
use Rattle.klog.specs.Shown.{place_in, live_on, IsSpelledOn}
use Rattle.klog.specs.Keeps.{IsLog}
use Rattle.klog.specs.Append.{sealed, taker, appended, is_full}
use Rattle.klog.specs.Flush.{without_page, moved_on, CanFlush}
use Rattle.klog.specs.Moves.{freed, dropped, without_entry, TellsOldest}
use Rattle.klog.specs.Segments.{LogRecord, live_record, segments_of, live_records}
use Rattle.klog.specs.Steps.{Dying, killed, now_flushing, page_done, with_last, without_oldest}

-- the live records of the list are those of the log, newest last
abbrev pub SegmentsTellLive : Type 0
SegmentsTellLive =
    (held : ℕ → Option (List ℕ)) (k : LogState) → IsLog k → live_records (segments_of held k) ≡ map live_record (reverse (live_on held k))

-- the record's key belongs to this set
abbrev pub is_of_set : Shape → ℕ → LogRecord → Bool
is_of_set shape set x = (place_in shape x.key).set == set

-- a strike kills the records of its set and tag
abbrev pub of_struck : LogState → ℕ → ℕ → Dying
of_struck k set tag number page x = is_of_set k.shape set x && (place_in k.shape x.key).tag == tag

abbrev pub StrikesKill : Type 0
StrikesKill =
    (bytes : ℕ) (held : ℕ → Option (List ℕ)) (k : LogState) (set tag : ℕ)
    → IsLog k
    → IsSpelledOn bytes held k
    → segments_of held (with_list k (without (has_tag set tag) k.entries)) ≡ killed (of_struck k set tag) (segments_of held k)

-- where a record lies: its segment's name, its page and its slot
abbrev pub place_of : LogState → ℕ → ℕ → LogRecord → Place
place_of k number page x = record { segment = name_of k number; page = page; slot = x.slot }

-- when taken records are dropped, the records of that set die that lie at their places, in their segments
abbrev pub of_taken : LogState → ℕ → List TakenRecord → Dying
of_taken k set ts number page x = is_of_set k.shape set x && list_any (λ t. is_place (place_of k number page x) t.place && number == t.segment) ts

abbrev pub TakenDie : Type 0
TakenDie =
    (bytes : ℕ) (held : ℕ → Option (List ℕ)) (k : LogState) (set : ℕ) (ts : List TakenRecord)
    → IsLog k
    → IsSpelledOn bytes held k
    → segments_of held (dropped k set ts) ≡ killed (of_taken k set ts) (segments_of held k)

-- when an entry is dropped, the record of its set at its place dies
abbrev pub of_entry : LogState → Entry → Dying
of_entry k e number page x = is_of_set k.shape e.set x && is_place (place_of k number page x) e.place

abbrev pub EntryDies : Type 0
EntryDies =
    (bytes : ℕ) (held : ℕ → Option (List ℕ)) (k : LogState) (e : Entry)
    → IsLog k
    → IsSpelledOn bytes held k
    → segments_of held (without_entry k e) ≡ killed (of_entry k e) (segments_of held k)

-- when a page is lost, its records die
abbrev pub of_page : ℕ → ℕ → Dying
of_page segment lost number page x = number == segment && page == lost

abbrev pub LostPagesDie : Type 0
LostPagesDie =
    (held : ℕ → Option (List ℕ)) (k : LogState) (segment page : ℕ)
    → IsLog k
    → k.first ≤ segment
    → segment ≤ filled_number k
    → segments_of held (without_page k segment page) ≡ killed (of_page segment page) (segments_of held k)

-- when the filled segment is sealed it is flushed, and an empty one is filled
abbrev pub SealingFlushes : Type 0
SealingFlushes =
    (held : ℕ → Option (List ℕ)) (k : LogState) → IsLog k → k.is_flushing ≡ false → segments_of held (sealed k) ≡ now_flushing (segments_of held k)

-- the record that enters, live, in this slot
abbrev pub entering_at : ℕ → Rec → LogRecord
entering_at slot r = record { slot = slot; key = r.key; value = r.value; prediction = Some entering_prediction }

-- an append puts its record last, after a sealing if the filled segment has no room
abbrev pub AppendsPutLast : Type 0
AppendsPutLast =
    (bytes : ℕ) (held : ℕ → Option (List ℕ)) (k : LogState) (r : Rec)
    → IsLog k
    → is_full bytes k r ≡ false
    → segments_of held (appended bytes k r)
    ≡ with_last (fits_here bytes (taker bytes k r).filling r) (entering_at (slot_for bytes (taker bytes k r).filling r) r)
    (if can_add bytes (filling_buffer k) r then segments_of held k else now_flushing (segments_of held k))

-- a page that was written, or lost, is done, over pages on which the live records are as before
abbrev pub PagesAreDone : Type 0
PagesAreDone =
    (was is : ℕ → Option (List ℕ)) (k : LogState)
    → IsLog k
    → CanFlush k
    → live_on is (moved_on k) ≡ live_on was k
    → segments_of is (moved_on k) ≡ page_done k.shape.segment_pages (segments_of was k) (segments_of was k).flushing

-- the oldest segment, of which no record is live, is gone when it is freed
abbrev pub FreeingTakesOldest : Type 0
FreeingTakesOldest =
    (held : ℕ → Option (List ℕ)) (k : LogState)
    → IsLog k
    → TellsOldest [] k oldest.Empty
    → segments_of held (freed k) ≡ without_oldest (segments_of held k)
