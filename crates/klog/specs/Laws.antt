-- Laws of the log's definitions, for those who take records and drop them later.
use Rattle.std.specs.Prelude.{◌≡◌, ◌≢◌, ℕ, ◌+◌, ◌<◌, ◌≤◌, List, length, Option, false}
use Rattle.page_device.specs.Frames.{pages_from}
use Rattle.record_pages.specs.Recs.{Rec}
use Rattle.klog_index.specs.declared.entry.Entry.{Entry}
use Rattle.klog.specs.declared.flushed.Flushed.{Flushed}
use Rattle.klog.specs.Log.{LogState, with_list}
use Rattle.klog.specs.Names.{names, name_of, number_of, segment_of}
use Rattle.klog.specs.Shown.{IsSpelledOn, live_on}
use Rattle.klog.specs.Keeps.{IsHeld, IsLog}
use Rattle.klog.specs.Append.{is_full, appended, taker, entry_for}
use Rattle.klog.specs.Flush.{FlushGives}
use Rattle.klog.specs.Moves.{freed}

-- an entry's place is held still, and of the segment that it was of
abbrev pub KeepsPlace : LogState → LogState → Entry → Type 0
KeepsPlace old new e = IsHeld new e × (segment_of new e ≡ segment_of old e)

-- a place that is held, live or not, is held after an append, and what is appended lies elsewhere
abbrev pub AppendKeepsPlaces : Type 0
AppendKeepsPlaces =
    (bytes : ℕ) (k : LogState) (r : Rec) (e : Entry)
    → IsLog k
    → IsHeld k e
    → is_full bytes k r ≡ false
    → KeepsPlace k (appended bytes k r) e × ((entry_for bytes (taker bytes k r) r).place ≢ e.place)

-- it is held after a step of flushing
abbrev pub FlushKeepsPlaces : Type 0
FlushKeepsPlaces = (k new : LogState) (answer : Flushed) (e : Entry) → IsHeld k e → FlushGives k answer new → KeepsPlace k new e

-- it is held when entries are dropped or lowered
abbrev pub ListKeepsPlaces : Type 0
ListKeepsPlaces = (k : LogState) (es : List Entry) (e : Entry) → IsHeld k e → KeepsPlace k (with_list k es) e

-- it is held when the oldest segment is freed, if it is of another one
abbrev pub FreeingKeepsPlaces : Type 0
FreeingKeepsPlaces = (k : LogState) (e : Entry) → IsLog k → IsHeld k e → 0 < k.stored → segment_of k e ≢ k.first → KeepsPlace k (freed k) e

-- a name tells the number of the one segment that has it, of those that may be held
abbrev pub NamesTellNumbers : Type 0
NamesTellNumbers =
    (k : LogState) (name : ℕ)
    → name < names k
    → (k.first ≤ number_of k name) × (number_of k name < k.first + names k) × (name_of k (number_of k name) ≡ name)
    × ((n : ℕ) → k.first ≤ n → n < k.first + names k → name_of k n ≡ name → n ≡ number_of k name)

-- there are as many live records as entries
abbrev pub LiveAreAsMany : Type 0
LiveAreAsMany =
    (bytes : ℕ) (held : ℕ → Option (List ℕ)) (k : LogState) → IsSpelledOn bytes held k → length (live_on held k) ≡ length k.entries

-- if the pages from the number of sets on are the same, the log is spelled still and the same records are live
abbrev pub FramesKeepLog : Type 0
FramesKeepLog =
    (bytes : ℕ) (was is : ℕ → Option (List ℕ)) (k : LogState)
    → pages_from k.shape.sets is ≡ pages_from k.shape.sets was
    → (IsSpelledOn bytes was k → IsSpelledOn bytes is k) × (live_on is k ≡ live_on was k)
