-- What leaves the log, from its oldest segment.
use Rattle.std.specs.Prelude.{◌≡◌, ℕ, ◌+◌, ◌-◌, ◌<◌, ◌≤◌, ◌==◌, List, ◌∷◌, length, map, take, filter, slice_get, Option, Some, Bool, true, false, not, ◌&&◌, Contains, Result, Ok, Err}
use Rattle.std.specs.List.{list_any}
use Rattle.std.specs.declared.alloc.AllocError.{AllocError}
use Rattle.record_pages.specs.Recs.{Rec, rec}
use Rattle.page_device.specs.Device.{faults_after}
use Rattle.klog_index.specs.declared.entry.Entry.{Entry}
use Rattle.klog_index.specs.Entries.{is_of, is_of_any, is_place, is_in, of_set, without}
use Rattle.klog_index.specs.First.{NoneOfSegment, IsFirstOf}
use Rattle.klog.specs.declared.oldest.Oldest.{Oldest}
use Rattle.klog.specs.declared.oldest.Oldest.TheVariants as oldest
use Rattle.klog.specs.declared.readmitted.Readmitted.{Readmitted}
use Rattle.klog.specs.declared.readmitted.Readmitted.TheVariants as answers
use Rattle.klog.specs.declared.set_taken.SetTaken.{SetTaken}
use Rattle.klog.specs.declared.set_taken.SetTaken.TheVariants as taken
use Rattle.klog.specs.declared.taken_record.TakenRecord.{TakenRecord}
use Rattle.klog.specs.Log.{LogState, with_list}
use Rattle.klog.specs.Names.{name_of, segment_of}
use Rattle.klog.specs.Shown.{CanStandFor, IsLiveOn}
use Rattle.klog.specs.Known.{is_buffered, ShowsIfHad}
use Rattle.klog.specs.Append.{entering, entry_for, taker, appended, is_full}
use Rattle.klog.specs.Flush.{is_on_page, without_page}
use Rattle.klog.specs.Look.{StaysAlive}

-- some entry is of the segment with this name
pub record SomeOfSegment (segment : ℕ) (es : List Entry) : Type 0 where
  pub its : Entry
  pub listed : Contains es its
  pub of_segment : its.place.segment ≡ segment

-- the oldest segment on the device has live records, all of these sets
pub record IsPassed (passed : List ℕ) (k : LogState) : Type 0 where
  pub stored : 0 < k.stored
  pub some : SomeOfSegment (name_of k k.first) k.entries
  pub no_other : NoneOfSegment (name_of k k.first) (without (is_of_any passed) k.entries)

-- What is said of the oldest segment on the device, if entries of these sets are passed over: there is none; it has no
-- live record; it has some, all of these sets; or which is the first of the others, by page, then slot.
abbrev pub TellsOldest : List ℕ → LogState → Oldest → Type 0
TellsOldest passed k oldest.NoSegment = k.stored ≡ 0
TellsOldest passed k oldest.Empty = (0 < k.stored) × NoneOfSegment (name_of k k.first) k.entries
TellsOldest passed k oldest.Passed = IsPassed passed k
TellsOldest passed k (oldest.First e) = (0 < k.stored) × IsFirstOf (name_of k k.first) (without (is_of_any passed) k.entries) e

-- a live entry of the oldest segment on the device
pub record IsOfOldest (k : LogState) (e : Entry) : Type 0 where
  pub some : 0 < k.stored
  pub listed : Contains k.entries e
  pub oldest : segment_of k e ≡ k.first

-- such an entry, of a set of the lane, and of none of these
pub record IsNextToMove (passed : List ℕ) (k : LogState) (e : Entry) : Type 0 where
  pub its : IsOfOldest k e
  pub set : e.set < k.shape.sets
  pub not_passed : is_of_any passed e ≡ false

-- the entry that is reported is a live one of that segment, of a set of the lane, and of none that is passed over
abbrev pub IsFirstLive : List ℕ → LogState → Oldest → Type 0
IsFirstLive passed k (oldest.First e) = IsNextToMove passed k e
IsFirstLive passed k oldest.NoSegment = Unit {0}
IsFirstLive passed k oldest.Empty = Unit {0}
IsFirstLive passed k oldest.Passed = Unit {0}

-- the oldest segment is no longer held
abbrev pub freed : LogState → LogState
freed k = record k { first = k.first + 1; stored = k.stored - 1 }

-- the record was taken of this entry: it lies at the entry's place, and that place is still of the segment with its number
abbrev pub is_source : LogState → TakenRecord → Entry → Bool
is_source k t e = is_place e.place t.place && segment_of k e == t.segment

-- the entry is of this set, and one of these records was taken of it
abbrev pub is_taken : LogState → ℕ → List TakenRecord → Entry → Bool
is_taken k set ts e = is_of set e && list_any (λ t. is_source k t e) ts

-- the entries of a set of which these records were taken are dropped
abbrev pub dropped : LogState → ℕ → List TakenRecord → LogState
dropped k set ts = with_list k (without (is_taken k set ts) k.entries)

-- an entry is dropped
abbrev pub without_entry : LogState → Entry → LogState
without_entry k e = with_list k (without (is_in e.set e.place) k.entries)

-- the live records but that of an entry
abbrev pub live_without_entry : Entry → List (Entry × Rec) → List (Entry × Rec)
live_without_entry e live = filter (λ x. not (is_in e.set e.place x.0)) live

-- the entries of an entry's own page are dropped
abbrev pub without_its_page : LogState → Entry → LogState
without_its_page k e = without_page k (segment_of k e) e.place.page

-- the live records but those of an entry's own page
abbrev pub live_without_page : LogState → Entry → List (Entry × Rec) → List (Entry × Rec)
live_without_page k e live = filter (λ x. not (is_on_page k (segment_of k e) e.place.page x.0)) live

-- the device failed
abbrev pub is_readmit_fault : Readmitted → Bool
is_readmit_fault answers.Fault = true
is_readmit_fault _ = false

-- a record that may stand for the entry is appended anew
pub record AppendsAnew (bytes : ℕ) (old : LogState) (e : Entry) (new : LogState) : Type 0 where
  pub its : Rec
  pub can : CanStandFor bytes old.shape e its
  pub room : is_full bytes (without_entry old e) (entering its.key its.value) ≡ false
  pub added : new ≡ appended bytes (without_entry old e) (entering its.key its.value)

-- a record that may stand for the entry finds no place, and is lost
pub record FindsNoPlace (bytes : ℕ) (old : LogState) (e : Entry) (new : LogState) : Type 0 where
  pub its : Rec
  pub can : CanStandFor bytes old.shape e its
  pub full : is_full bytes (without_entry old e) (entering its.key its.value) ≡ true
  pub left : new ≡ without_entry old e

-- A record that may stand for the entry is appended anew, or is lost if no place is left; if its page is not to be
-- had all entries of that page are dropped.
abbrev pub ReadmitLeaves : ℕ → LogState → Entry → Readmitted → LogState → Type 0
ReadmitLeaves bytes old e answers.Readmitted new = AppendsAnew bytes old e new
ReadmitLeaves bytes old e answers.Dropped new = FindsNoPlace bytes old e new
ReadmitLeaves bytes old e answers.Fault new = new ≡ without_its_page old e
ReadmitLeaves bytes old e answers.Damaged new = new ≡ without_its_page old e

-- the same of a record that was had: it is appended anew, or lost
abbrev pub EntersAnew : ℕ → LogState → Entry → Rec → Readmitted → LogState → Type 0
EntersAnew bytes old e r answers.Readmitted new =
    (is_full bytes (without_entry old e) (entering r.key r.value) ≡ false)
    × (new ≡ appended bytes (without_entry old e) (entering r.key r.value))
EntersAnew bytes old e r answers.Dropped new =
    (is_full bytes (without_entry old e) (entering r.key r.value) ≡ true) × (new ≡ without_entry old e)
EntersAnew bytes old e r answers.Fault new = ⊥
EntersAnew bytes old e r answers.Damaged new = ⊥

-- what is live after a readmission of the entry, which stands for this record: the record is the newest, or it is gone; or
-- its page is gone
abbrev pub live_anew : ℕ → LogState → Entry → Rec → Readmitted → List (Entry × Rec) → List (Entry × Rec)
live_anew bytes old e r answers.Readmitted live =
    (entry_for bytes (taker bytes (without_entry old e) (entering r.key r.value)) (entering r.key r.value), entering r.key r.value)
    ∷ live_without_entry e live
live_anew bytes old e r answers.Dropped live = live_without_entry e live
live_anew bytes old e r answers.Fault live = live_without_page old e live
live_anew bytes old e r answers.Damaged live = live_without_page old e live

-- the log after a readmission of the entry, which stands for this record, and when each answer comes; no page is damaged
abbrev pub MovesTo : ℕ → LogState → Entry → Rec → Readmitted → LogState → Type 0
MovesTo bytes old e r answers.Readmitted new = EntersAnew bytes old e r answers.Readmitted new
MovesTo bytes old e r answers.Dropped new = EntersAnew bytes old e r answers.Dropped new
MovesTo bytes old e r answers.Fault new = new ≡ without_its_page old e
MovesTo bytes old e r answers.Damaged new = ⊥

-- what a readmission of an entry gives, of these live records: the entry's is one of them, and the answer says what
-- became of it
pub record ReadmitGives (bytes : ℕ) (old : LogState) (e : Entry) (live : List (Entry × Rec)) (a : Readmitted) (new : LogState) (after : List (Entry × Rec)) : Type 0 where
  pub its : Rec
  pub was_live : Contains live (e, its)
  pub moved : MovesTo bytes old e its a new
  pub left : after ≡ live_anew bytes old e its a live

-- what lies behind each answer of a readmission, whatever else is known: a record that may stand for the entry, and which
-- entered anew or found no place; or, if one is damaged, none
abbrev pub ReadsBack : ℕ → (ℕ → Option (List ℕ)) → LogState → Entry → Readmitted → LogState → Type 0
ReadsBack bytes held old e answers.Readmitted new = ShowsIfHad bytes held old e (λ r. EntersAnew bytes old e r answers.Readmitted new)
ReadsBack bytes held old e answers.Dropped new = ShowsIfHad bytes held old e (λ r. EntersAnew bytes old e r answers.Dropped new)
ReadsBack bytes held old e answers.Fault new = Unit {0}
ReadsBack bytes held old e answers.Damaged new = IsLiveOn bytes held old e → ⊥

-- the most records that are taken at once
abbrev pub most_taken : ℕ
most_taken = 32

-- a page was lost
abbrev pub is_taking_lost : Result SetTaken AllocError → Bool
is_taking_lost (Ok taken.PageLost) = true
is_taking_lost _ = false

-- the entries of a set that are taken: the newest
abbrev pub taken_entries : LogState → ℕ → List Entry
taken_entries k set = take most_taken (of_set set k.entries)

-- a page with a record that was to be taken is lost: all its entries are dropped
pub record LosesPageOf (old : LogState) (set : ℕ) (new : LogState) : Type 0 where
  pub entry : Entry
  pub listed : Contains (taken_entries old set) entry
  pub left : new ≡ without_its_page old entry

-- if a page was lost, one with a record that was to be taken, all its entries are dropped; otherwise nothing changes, and
-- no more records are given than are taken at once
abbrev pub TakeLeaves : LogState → ℕ → Result SetTaken AllocError → LogState → Type 0
TakeLeaves old set (Ok taken.PageLost) new = LosesPageOf old set new
TakeLeaves old set (Ok (taken.Records rs)) new = (new ≡ old) × (length rs ≤ most_taken)
TakeLeaves old set (Err e) new = new ≡ old

-- a live record as it is taken: with its entry's prediction, its place, and the number of its segment
abbrev pub taken_as : LogState → Entry × Rec → TakenRecord
taken_as k x = record { stored = rec x.1.key x.1.value x.0.prediction; place = x.0.place; segment = segment_of k x.0 }

-- the records that are taken, of these live ones: the newest of the set, newest first
abbrev pub taken_of : LogState → ℕ → List (Entry × Rec) → List TakenRecord
taken_of k set live = map (taken_as k) (take most_taken (filter (λ x. is_of set x.0) live))

-- a page on the device with a record that was to be taken is lost: its entries and records are gone
pub record LosesStoredPage (old : LogState) (set : ℕ) (live : List (Entry × Rec)) (new : LogState) (after : List (Entry × Rec)) : Type 0 where
  pub entry : Entry
  pub listed : Contains (taken_entries old set) entry
  pub stored : is_buffered old entry ≡ false
  pub left : new ≡ without_its_page old entry
  pub live_left : after ≡ live_without_page old entry live

-- What is answered, of these live records, and the log and what is live after it: the records that are taken are still
-- live; if a page on the device was lost, one with a record that was to be taken, its entries and records are gone.
abbrev pub TakeGives : LogState → ℕ → List (Entry × Rec) → SetTaken → LogState → List (Entry × Rec) → Type 0
TakeGives old set live (taken.Records rs) new after = (rs ≡ taken_of old set live) × StaysAlive live old new after
TakeGives old set live taken.PageLost new after = LosesStoredPage old set live new after

-- records are those of these entries, each as it is taken, if what the entry shows is known
pub record AreCopies (bytes : ℕ) (held : ℕ → Option (List ℕ)) (k : LogState) (es : List Entry) (rs : List TakenRecord) : Type 0 where
  pub count : length rs ≡ length es
  pub each : (i : ℕ) (e : Entry) → slice_get es i ≡ Some e → ShowsIfHad bytes held k e (λ r. slice_get rs i ≡ Some (taken_as k (e, r)))

-- a page with a record that was to be taken is lost; if such a record is known, the device failed, and the record lies
-- in no buffer
pub record LosesPageAt (bytes : ℕ) (held : ℕ → Option (List ℕ)) (old : LogState) (set before : ℕ) (new : LogState) (after : ℕ) : Type 0 where
  pub entry : Entry
  pub listed : Contains (taken_entries old set) entry
  pub left : new ≡ without_its_page old entry
  pub failed : IsLiveOn bytes held old entry → after ≡ faults_after before true
  pub stored : IsLiveOn bytes held old entry → is_buffered old entry ≡ false

-- memory was wanted for a record that was to be taken
pub record WantsToTake (bytes : ℕ) (held : ℕ → Option (List ℕ)) (old : LogState) (set : ℕ) : Type 0 where
  pub entry : Entry
  pub listed : Contains (taken_entries old set) entry
  pub shows : ShowsIfHad bytes held old entry (λ r. Unit {0})

-- What lies behind each answer of a taking, whatever else is known, by the device's count of failures before and after:
-- each record is its entry's; a page is lost if an entry to be taken shows no record that may stand for it, or the
-- device failed; and memory is wanted only for a record.
abbrev pub TakesAt : ℕ → (ℕ → Option (List ℕ)) → LogState → ℕ → ℕ → Result SetTaken AllocError → LogState → ℕ → Type 0
TakesAt bytes held old set before (Ok (taken.Records rs)) new after = AreCopies bytes held old (taken_entries old set) rs
TakesAt bytes held old set before (Ok taken.PageLost) new after = LosesPageAt bytes held old set before new after
TakesAt bytes held old set before (Err x) new after = WantsToTake bytes held old set
