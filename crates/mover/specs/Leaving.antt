-- What the beginning of a move leaves of a store, on any device, by what it answers.
use Rattle.std.specs.Prelude.{◌≡◌, ◌≢◌, ◌≤◌, ◌⊎◌, ◌+◌, ℕ, [], ◌∷◌, ◌++◌, length, Bool, true, false, nat_lt, Contains}
use Rattle.std.specs.FinSet as bits
use Rattle.record_pages.specs.Sizes.{max_set_records}
use Rattle.policy_laws.specs.declared.job.Job.{Job}
use Rattle.admission.specs.declared.judgement.Judgement.{Judgement}
use Rattle.admission.specs.declared.judgement.Judgement.TheVariants as judgement
use Rattle.klog_index.specs.declared.entry.Entry.{Entry}
use Rattle.klog.specs.declared.oldest.Oldest.{Oldest}
use Rattle.klog.specs.declared.oldest.Oldest.TheVariants as oldest
use Rattle.klog.specs.declared.readmitted.Readmitted.{Readmitted}
use Rattle.klog.specs.declared.set_taken.SetTaken.{SetTaken}
use Rattle.klog.specs.declared.set_taken.SetTaken.TheVariants as taken
use Rattle.klog.specs.Log.{LogState}
use Rattle.klog.specs.Moves.{freed, without_entry, without_its_page, taken_entries, most_taken, ReadmitLeaves}
use Rattle.kset.specs.declared.set_read.SetRead.{SetRead}
use Rattle.kset.specs.declared.set_read.SetRead.TheVariants as read
use Rattle.kset.specs.Sets.{notes_of, forgotten}
use Rattle.mover.specs.Store.{StoreState, most_moves}
use Rattle.mover.specs.Oldest.{oldest_in}
use Rattle.mover.specs.Flight.{most_flights, sets_in_flight, just_begun}
use Rattle.mover.specs.Job.{job_of}
use Rattle.mover.specs.Begin.{began_by, judged_in}
use Rattle.mover.specs.declared.begin.Begin.{Begin}
use Rattle.mover.specs.declared.begin.Begin.TheVariants as begin
use Rattle.mover.specs.declared.moving.Moving.{Moving}

-- only the device may be another
abbrev pub HasAll : {D : Type 0} → StoreState D → StoreState D → Type 0
HasAll old new = new ≡ record old { device = new.device }

-- the log is this one, and otherwise only the device may be another
abbrev pub HasLog : {D : Type 0} → LogState → StoreState D → StoreState D → Type 0
HasLog log old new = new ≡ record old { device = new.device; log = log }

-- a page of the log is lost, that of an entry of which a record was to be taken
pub record LosesLogPage {D : Type 0} (set : ℕ) (old new : StoreState D) : Type 0 where
  pub entry : Entry
  pub listed : Contains (taken_entries old.log set) entry
  pub rest : HasLog (without_its_page old.log entry) old new

-- the page of a set is lost, which is not read if the filter is empty, and the set is forgotten
pub record LosesSetPage {D : Type 0} (set : ℕ) (old new : StoreState D) : Type 0 where
  pub read : (notes_of old.sets set).filter ≢ bits.empty
  pub rest : new ≡ record old { device = new.device; sets = forgotten old.sets set }

-- a taking of the records of a set from the log: all stays, and they are few; or a page is lost
abbrev pub TakingLeaves : {D : Type 0} → ℕ → StoreState D → SetTaken → StoreState D → Type 0
TakingLeaves set old (taken.Records rs) new = (length rs ≤ most_taken) × HasAll old new
TakingLeaves set old taken.PageLost new = LosesLogPage set old new

-- a reading of the records of a set: all stays, and they are few; or its page is lost
abbrev pub ReadingLeaves : {D : Type 0} → ℕ → StoreState D → SetRead → StoreState D → Type 0
ReadingLeaves set old (read.Records rs) new = (length rs ≤ max_set_records) × HasAll old new
ReadingLeaves set old read.PageLost new = LosesSetPage set old new

-- a move of a set with the next number is in flight, after the others, and this is its job
pub record Flies {D : Type 0} (size set : ℕ) (old : StoreState D) (job : Job) (new : StoreState D) : Type 0 where
  pub moving : Moving
  pub number_is : moving.number ≡ old.moves + 1
  pub set_is : moving.set ≡ set
  pub job_is : job ≡ job_of size moving
  pub rest : new ≡ record old { device = new.device; flights = old.flights ++ just_begun old.log.shape moving ∷ []; moves = old.moves + 1 }

-- the records of a set are gathered: a move of it is in flight; or a page is lost
abbrev pub GatheringLeaves : {D : Type 0} → ℕ → ℕ → StoreState D → Begin → StoreState D → Type 0
GatheringLeaves size set old (begin.Job job) new = Flies size set old job new
GatheringLeaves size set old begin.PageLost new = LosesLogPage set old new ⊎ LosesSetPage set old new
GatheringLeaves size set old begin.Nothing new = ⊥
GatheringLeaves size set old begin.Busy new = ⊥
GatheringLeaves size set old begin.Freed new = ⊥
GatheringLeaves size set old begin.Readmitted new = ⊥
GatheringLeaves size set old begin.Dropped new = ⊥

-- the record of an entry is readmitted or lost, and only the log is another
pub record Readmits {D : Type 0} (size : ℕ) (e : Entry) (old : StoreState D) (begun : Begin) (new : StoreState D) : Type 0 where
  pub answer : Readmitted
  pub told : begun ≡ began_by answer
  pub log : ReadmitLeaves size old.log e answer new.log
  pub rest : HasLog new.log old new

-- a move begins with an entry of the oldest segment: its set is to move, or it is readmitted, or dropped
abbrev pub EntryLeaves : {D : Type 0} → ℕ → Entry → Judgement → StoreState D → Begin → StoreState D → Type 0
EntryLeaves size e judgement.Move old begun new = GatheringLeaves size e.set old begun new
EntryLeaves size e judgement.Readmit old begun new = Readmits size e old begun new
EntryLeaves size e judgement.Drop old begun new = (begun ≡ begin.Dropped) × (new ≡ record old { log = without_entry old.log e })

-- a move begins with the oldest segment: there is none, or it is freed, or each of its live entries is of a set in flight, or
-- there is the first of the others
abbrev pub OldestLeaves : {D : Type 0} → ℕ → Oldest → StoreState D → Begin → StoreState D → Type 0
OldestLeaves size oldest.NoSegment old begun new = (begun ≡ begin.Nothing) × (new ≡ old)
OldestLeaves size oldest.Empty old begun new = (begun ≡ begin.Freed) × (new ≡ record old { log = freed old.log })
OldestLeaves size oldest.Passed old begun new = (begun ≡ begin.Busy) × (new ≡ old)
OldestLeaves size (oldest.First e) old begun new = EntryLeaves size e (judged_in old.layout.threshold old.log e) old begun new

-- only so many moves ever begin
abbrev pub NextLeaves : {D : Type 0} → ℕ → Bool → StoreState D → Begin → StoreState D → Type 0
NextLeaves size true old begun new = OldestLeaves size (oldest_in (sets_in_flight old.flights) old.log) old begun new
NextLeaves size false old begun new = (begun ≡ begin.Nothing) × (new ≡ old)

-- only so many moves are in flight at a time
abbrev pub RoomLeaves : {D : Type 0} → ℕ → Bool → StoreState D → Begin → StoreState D → Type 0
RoomLeaves size true old begun new = NextLeaves size (nat_lt old.moves most_moves) old begun new
RoomLeaves size false old begun new = (begun ≡ begin.Busy) × (new ≡ old)

-- a move begins
abbrev pub BeginLeaves : {D : Type 0} → ℕ → StoreState D → Begin → StoreState D → Type 0
BeginLeaves size old begun new = RoomLeaves size (nat_lt (length old.flights) most_flights) old begun new
