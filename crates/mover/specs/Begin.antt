-- How a move begins.
use Rattle.std.specs.Prelude.{◌≡◌, ◌≢◌, ◌<◌, ◌+◌, ℕ, List, [], ◌∷◌, ◌++◌, length, filter, not, count_by, Contains, Bool, true, false, Result, Ok, IsTrue, ◌⊎◌, Option, Some, None, nat_lt, if◌then◌else◌}
use Rattle.std.specs.FinSet as bits
use Rattle.std.specs.declared.alloc.AllocError.{AllocError}
use Rattle.record_pages.specs.Recs.{Rec}
use Rattle.policy_laws.specs.declared.job.Job.{Job}
use Rattle.admission.specs.Threshold.{judgement_of}
use Rattle.admission.specs.declared.judgement.Judgement.{Judgement}
use Rattle.admission.specs.declared.judgement.Judgement.TheVariants as judgement
use Rattle.klog_index.specs.declared.entry.Entry.{Entry}
use Rattle.klog_index.specs.Entries.{is_of}
use Rattle.klog.specs.declared.oldest.Oldest.{Oldest}
use Rattle.klog.specs.declared.oldest.Oldest.TheVariants as oldest
use Rattle.klog.specs.declared.readmitted.Readmitted.{Readmitted}
use Rattle.klog.specs.declared.readmitted.Readmitted.TheVariants as readmitted
use Rattle.klog.specs.declared.set_taken.SetTaken.{SetTaken}
use Rattle.klog.specs.declared.set_taken.SetTaken.TheVariants as taken
use Rattle.klog.specs.declared.taken_record.TakenRecord.{TakenRecord}
use Rattle.klog.specs.Log.{LogState}
use Rattle.klog.specs.Append.{entering, is_full}
use Rattle.klog.specs.Known.{is_buffered}
use Rattle.klog.specs.Moves.{freed, dropped, is_taken, without_entry, live_without_entry, without_its_page, live_without_page, taken_of, taken_entries}
use Rattle.kset.specs.declared.set_read.SetRead.{SetRead}
use Rattle.kset.specs.declared.set_read.SetRead.TheVariants as read
use Rattle.kset.specs.declared.set_record.SetRecord.{SetRecord}
use Rattle.kset.specs.Sets.{notes_of, forgotten}
use Rattle.kset.specs.Shown.{with_flags}
use Rattle.mover.specs.Store.{StoreState, most_moves}
use Rattle.mover.specs.Lane.{LaneState}
use Rattle.kset.specs.After.{with_set}
use Rattle.mover.specs.Get.{Step}
use Rattle.mover.specs.Put.{lane_appended, IsStep}
use Rattle.mover.specs.Oldest.{oldest_in, record_of}
use Rattle.mover.specs.declared.begin.Begin.{Begin}
use Rattle.mover.specs.declared.begin.Begin.TheVariants as begin
use Rattle.mover.specs.declared.moving.Moving.{Moving}
use Rattle.mover.specs.Flight.{Flight, most_flights, sets_in_flight, just_begun, is_struck}
use Rattle.mover.specs.Job.{job_of}

-- the oldest segment on the device is no longer held
abbrev pub lane_freed : LaneState → LaneState
lane_freed lane = record lane { log = freed lane.log }

-- the live records of a set of which these were taken die
abbrev pub lane_without : ℕ → List TakenRecord → LaneState → LaneState
lane_without set ts lane = record lane {
  log = dropped lane.log set ts;
  live = filter (λ x. not (is_taken lane.log set ts x.0)) lane.live;
}

-- the live record of an entry dies
abbrev pub lane_without_entry : Entry → LaneState → LaneState
lane_without_entry e lane = record lane { log = without_entry lane.log e; live = live_without_entry e lane.live }

-- the live records of an entry's page die
abbrev pub lane_without_page : Entry → LaneState → LaneState
lane_without_page e lane = record lane { log = without_its_page lane.log e; live = live_without_page lane.log e lane.live }

-- a set is forgotten
abbrev pub lane_forgotten : ℕ → LaneState → LaneState
lane_forgotten set lane = record lane { sets = forgotten lane.sets set; visible = with_set lane.visible set [] }

-- one move more began, and was given up
abbrev pub lane_counted : LaneState → LaneState
lane_counted lane = record lane { moves = lane.moves + 1 }

-- the visible records of a set, each with whether it was hit
abbrev pub set_records : LaneState → ℕ → List SetRecord
set_records lane set = with_flags (notes_of lane.sets set) (lane.visible set)

-- the next move, of a set: its visible records, and the newest of it in the log
abbrev pub moving_of : LaneState → ℕ → Moving
moving_of lane set = record {
  number = lane.moves + 1;
  set = set;
  visible = set_records lane set;
  taken = taken_of lane.log set lane.live;
}

-- one move more began, of this set, and is in flight after the others
abbrev pub lane_begun : LaneState → ℕ → LaneState
lane_begun lane set =
    record (lane_counted lane) { flights = lane.flights ++ just_begun lane.log.shape (moving_of lane set) ∷ [] }

-- the record of an entry enters the log anew, or finds no place and is lost
abbrev pub anew_step : ℕ → LaneState → Entry → Option Rec → Step Readmitted
anew_step size lane e None = record { reply = readmitted.Dropped; lane = lane_without_entry e lane }
anew_step size lane e (Some r) =
    if is_full size (without_entry lane.log e) (entering r.key r.value)
    then record { reply = readmitted.Dropped; lane = lane_without_entry e lane }
    else record { reply = readmitted.Readmitted; lane = lane_appended size (lane_without_entry e lane) (entering r.key r.value) }

-- a readmission of an entry, if its page is had
abbrev pub readmit_step : ℕ → Entry → LaneState → Step Readmitted
readmit_step size e lane = anew_step size lane e (record_of e lane.live)

-- a readmission: if the device failed the live records of the entry's page die; no page is damaged
abbrev pub LaneReadmits : ℕ → Entry → LaneState → Readmitted → LaneState → Type 0
LaneReadmits size e old readmitted.Fault new = new ≡ lane_without_page e old
LaneReadmits size e old readmitted.Damaged new = ⊥
LaneReadmits size e old answer new = IsStep (readmit_step size e old) answer new

-- how a move began by a readmission
abbrev pub began_by : Readmitted → Begin
began_by readmitted.Readmitted = begin.Readmitted
began_by readmitted.Dropped = begin.Dropped
began_by readmitted.Fault = begin.PageLost
began_by readmitted.Damaged = begin.PageLost

-- what becomes of an entry of the oldest segment
abbrev pub judged_in : ℕ → LogState → Entry → Judgement
judged_in least log e = judgement_of least (count_by (is_of e.set) log.entries) e.prediction

-- the same in a lane
abbrev pub judged : ℕ → LaneState → Entry → Judgement
judged least lane e = judged_in least lane.log e

-- a move begins so with an entry: its set is to move, or it is readmitted, or dropped
abbrev pub entry_step : ℕ → LaneState → Entry → Judgement → Step Begin
entry_step size lane e judgement.Move = record { reply = begin.Job (job_of size (moving_of lane e.set)); lane = lane_begun lane e.set }
entry_step size lane e judgement.Readmit =
    record { reply = began_by (readmit_step size e lane).reply; lane = (readmit_step size e lane).lane }
entry_step size lane e judgement.Drop = record { reply = begin.Dropped; lane = lane_without_entry e lane }

-- a move begins so with the oldest segment: there is none, or it is freed, or each of its live entries is of a set in flight,
-- or there is the first of the others
abbrev pub oldest_step : ℕ → ℕ → LaneState → Oldest → Step Begin
oldest_step size least lane oldest.NoSegment = record { reply = begin.Nothing; lane = lane }
oldest_step size least lane oldest.Empty = record { reply = begin.Freed; lane = lane_freed lane }
oldest_step size least lane oldest.Passed = record { reply = begin.Busy; lane = lane }
oldest_step size least lane (oldest.First e) = entry_step size lane e (judged least lane e)

-- how a move begins if one more may be in flight and no call of the device fails; only so many ever begin
abbrev pub next_step : ℕ → ℕ → LaneState → Step Begin
next_step size least lane =
    if nat_lt lane.moves most_moves then oldest_step size least lane (oldest_in (sets_in_flight lane.flights) lane.log)
    else record { reply = begin.Nothing; lane = lane }

-- how a move begins if no call of the device fails; only so many are in flight at a time
abbrev pub begin_step : ℕ → ℕ → LaneState → Step Begin
begin_step size least lane =
    if nat_lt (length lane.flights) most_flights then next_step size least lane else record { reply = begin.Busy; lane = lane }

-- a page on the device with a record of a set that was to be taken is lost
pub record LosesTaken (set : ℕ) (old new : LaneState) : Type 0 where
  pub entry : Entry
  pub listed : Contains (taken_entries old.log set) entry
  pub stored : is_buffered old.log entry ≡ false
  pub left : new ≡ lane_without_page entry old

-- a taking of the records of a set: they stay; or one of their pages on the device is lost
abbrev pub LaneTakes : ℕ → LaneState → SetTaken → LaneState → Type 0
LaneTakes set old (taken.Records rs) new = (rs ≡ taken_of old.log set old.live) × (new ≡ old)
LaneTakes set old taken.PageLost new = LosesTaken set old new

-- a reading of the visible records of a set: they stay; or its page is lost, which is not asked for if the filter is
-- empty, and the set is forgotten
abbrev pub LaneReads : ℕ → LaneState → SetRead → LaneState → Type 0
LaneReads set old (read.Records rs) new = (rs ≡ set_records old set) × (new ≡ old)
LaneReads set old read.PageLost new = ((notes_of old.sets set).filter ≢ bits.empty) × (new ≡ lane_forgotten set old)

-- the records of a set are gathered: they are to move; or a page is lost
abbrev pub Gathers : ℕ → ℕ → LaneState → Begin → LaneState → Type 0
Gathers size set old begin.PageLost new = LaneTakes set old taken.PageLost new ⊎ LaneReads set old read.PageLost new
Gathers size set old answer new = IsStep (record { reply = begin.Job (job_of size (moving_of old set)); lane = lane_begun old set }) answer new

-- a page is lost as a move begins with an entry
abbrev pub LosesPage : ℕ → Entry → LaneState → Judgement → LaneState → Type 0
LosesPage size e old judgement.Move new = Gathers size e.set old begin.PageLost new
LosesPage size e old judgement.Readmit new = LaneReadmits size e old readmitted.Fault new
LosesPage size e old judgement.Drop new = ⊥

-- how a move begins with an entry: by its step; or a page is lost
abbrev pub EntryBegins : ℕ → ℕ → Entry → LaneState → Begin → LaneState → Type 0
EntryBegins size least e old begin.PageLost new = LosesPage size e old (judged least old e) new
EntryBegins size least e old answer new = IsStep (entry_step size old e (judged least old e)) answer new

-- a page is lost as a move begins with the first entry of the oldest segment that is of no set in flight
pub record LosesFirst (size least : ℕ) (old new : LaneState) : Type 0 where
  pub free : length old.flights < most_flights
  pub few : old.moves < most_moves
  pub first : Entry
  pub is_first : oldest_in (sets_in_flight old.flights) old.log ≡ oldest.First first
  pub lost : LosesPage size first old (judged least old first) new

-- how a move begins: by its step; or a page is lost as it begins with the entry that the step begins with
abbrev pub BeginGives : ℕ → ℕ → LaneState → Begin → LaneState → Type 0
BeginGives size least old begin.PageLost new = LosesFirst size least old new
BeginGives size least old answer new = IsStep (begin_step size least old) answer new

-- a call that writes no page
pub record WritesNothing {D : Type 0} (honest : D → Bool) (held : D → ℕ → Option (List ℕ)) (old new : StoreState D) : Type 0 where
  pub layout : new.layout ≡ old.layout
  pub honesty : honest new.device ≡ honest old.device
  pub same : IsTrue (honest old.device) → held new.device ≡ held old.device

-- a page was lost
abbrev pub is_lost : Result Begin AllocError → Bool
is_lost (Ok begin.PageLost) = true
is_lost _ = false

-- the move of a job is in flight, and no item of it is struck
abbrev pub IsJustBegun : ℕ → Job → Flight → Type 0
IsJustBegun size job f = (job ≡ job_of size f.moving) × ((item : ℕ) → is_struck f item ≡ false)
