-- What becomes of a record that is to enter the log.
use Rattle.std.specs.Prelude.{◌≡◌, ℕ, ◌<◌, ◌^◌, List, ◌∷◌, [], length, Bool, true, false, ◌||◌, nat_lt, nat_le, if◌then◌else◌}
use Rattle.record_pages.specs.Sizes.{entering_prediction}
use Rattle.record_pages.specs.Recs.{Rec, rec}
use Rattle.record_pages.specs.declared.timed_value.TimedValue.{TimedValue}
use Rattle.klog_index.specs.declared.entry.Entry.{Entry}
use Rattle.klog.specs.declared.appended.Appended.{Appended}
use Rattle.klog.specs.declared.appended.Appended.TheVariants as answers
use Rattle.klog.specs.Buffer.{can_add, pages_with, page_for, slot_for}
use Rattle.klog.specs.Log.{LogState, filling_buffer}
use Rattle.klog.specs.Names.{name_of, filled_number}
use Rattle.klog.specs.Shown.{place_in}

-- the record of a key and value that enters a log
abbrev pub entering : List ℕ → TimedValue → Rec
entering key value = rec key value entering_prediction

-- the filled segment becomes the flushed one, and an empty one is filled
abbrev pub sealed : LogState → LogState
sealed k = record k { is_flushing = true; done = 0; flushing = k.filling; filling = [] }

-- the entry of a record that goes into the segment that is filled
abbrev pub entry_for : ℕ → LogState → Rec → Entry
entry_for bytes k r = record {
  set = (place_in k.shape r.key).set;
  tag = (place_in k.shape r.key).tag;
  place = record { segment = name_of k (filled_number k); page = page_for bytes k.filling r; slot = slot_for bytes k.filling r };
  prediction = entering_prediction;
}

-- the record is added to the segment that is filled
abbrev pub put_on : ℕ → LogState → Rec → LogState
put_on bytes k r = record k { entries = entry_for bytes k r ∷ k.entries; filling = pages_with bytes k.filling r }

-- the log that takes the record: as it is if the filled segment has room, otherwise with a new segment
abbrev pub taker : ℕ → LogState → Rec → LogState
taker bytes k r = if can_add bytes (filling_buffer k) r then k else sealed k

-- the log with the record
abbrev pub appended : ℕ → LogState → Rec → LogState
appended bytes k r = put_on bytes (taker bytes k r) r

-- no place is left: both buffers are in use, or the number of the record's segment would pass 2^62
abbrev pub is_full : ℕ → LogState → Rec → Bool
is_full bytes k r =
    if can_add bytes (filling_buffer k) r then nat_lt (2 ^ 62) (filled_number k)
    else (k.is_flushing || nat_le (2 ^ 62) (filled_number k))

-- the index has room, and no place is left
pub record LacksPlace (bytes : ℕ) (old : LogState) (r : Rec) (new : LogState) : Type 0 where
  pub listed : length old.entries < old.shape.limit
  pub full : is_full bytes old r ≡ true
  pub same : new ≡ old

-- the index has room, and so has a page: the record is added
pub record Appends (bytes : ℕ) (old : LogState) (r : Rec) (new : LogState) : Type 0 where
  pub listed : length old.entries < old.shape.limit
  pub room : is_full bytes old r ≡ false
  pub added : new ≡ appended bytes old r

-- refused if the index is full, or else if no place is left; added otherwise
abbrev pub AppendGives : ℕ → LogState → Rec → Appended → LogState → Type 0
AppendGives bytes old r answers.IndexFull new = (length old.entries ≡ old.shape.limit) × (new ≡ old)
AppendGives bytes old r answers.Full new = LacksPlace bytes old r new
AppendGives bytes old r answers.Appended new = Appends bytes old r new

-- the live records once the record has entered, or found no place: then it is the newest of them
abbrev pub live_entered : ℕ → LogState → Rec → Bool → List (Entry × Rec) → List (Entry × Rec)
live_entered bytes old r entered live = if entered then (entry_for bytes (taker bytes old r) r, r) ∷ live else live

-- the live records after an append
abbrev pub live_appended : ℕ → LogState → Rec → Appended → List (Entry × Rec) → List (Entry × Rec)
live_appended bytes old r answers.Appended live = live_entered bytes old r true live
live_appended bytes old r answers.IndexFull live = live
live_appended bytes old r answers.Full live = live
