-- How a move begins, tier by tier.
use Rattle.std.proofs.Common.{◌≡◌, ◌≢◌, ◌+◌, ℕ, Bool, true, false, List, [], Option, Some, refl, sym, ap, subst, ◌∙◌, ◌∷◌, ◌++◌, length}
use Rattle.std.specs.Prelude.{Result, Ok, nat_lt}
use Rattle.std.specs.FinSet as bits
use Rattle.std.specs.declared.alloc.AllocError.{AllocError}
use Rattle.record_pages.specs.Recs.{Rec}
use Rattle.klog_index.specs.declared.entry.Entry.{Entry}
use Rattle.klog_index.specs.Entries.{AreApart}
use Rattle.klog.specs.Log.{LogState}
use Rattle.klog.specs.Shown.{live_on}
use Rattle.klog.specs.declared.readmitted.Readmitted.{Readmitted}
use Rattle.klog.specs.declared.readmitted.Readmitted.TheVariants as readmitted
use Rattle.klog.specs.declared.set_taken.SetTaken.{SetTaken}
use Rattle.klog.specs.declared.set_taken.SetTaken.TheVariants as taken
use Rattle.klog.specs.Moves.{TakeGives, TakeLeaves, ReadmitGives, MovesTo, live_anew}
use Rattle.kset.specs.declared.set_read.SetRead.{SetRead}
use Rattle.kset.specs.declared.set_read.SetRead.TheVariants as read
use Rattle.kset.specs.Sets.{SetsState, notes_of, forgotten}
use Rattle.kset.specs.Shown.{visible_in, with_flags}
use Rattle.kset.specs.ReadSet.{is_set_lost, SetReadLeaves, SetReadGives}
use Rattle.kset.specs.declared.set_record.SetRecord.{SetRecord}
use Rattle.page_device.specs.Device.{faults_after}
use Rattle.page_device.specs.Lending.{MayFail}
use Rattle.kset.specs.After.{shown_after_reading}
use Rattle.mover.specs.Store.{StoreState, most_moves}
use Rattle.mover.specs.Lane.{LaneState, lane_of}
use Rattle.mover.specs.Put.{IsStep}
use Rattle.mover.specs.Begin.{LaneTakes, LaneReads, LaneReadmits, anew_step, readmit_step, began_by, judged_in}
use Rattle.mover.specs.Leaving.{HasAll, HasLog, LosesSetPage, TakingLeaves, ReadingLeaves, Flies, EntryLeaves, OldestLeaves, NextLeaves, RoomLeaves, BeginLeaves}
use Rattle.mover.specs.Oldest.{oldest_in, record_of}
use Rattle.mover.specs.Job.{job_of}
use Rattle.mover.specs.declared.moving.Moving.{Moving}
use Rattle.admission.specs.declared.judgement.Judgement.{Judgement}
use Rattle.admission.specs.declared.judgement.Judgement.TheVariants as judgement
use Rattle.klog.specs.declared.oldest.Oldest.{Oldest}
use Rattle.klog.specs.declared.oldest.Oldest.TheVariants as oldest
use Rattle.mover.specs.Flight.{just_begun, most_flights, sets_in_flight}
use Rattle.mover.specs.declared.begin.Begin.TheVariants as begin
use Rattle.policy_laws.specs.declared.job.Job.{Job}
use Rattle.mover.proofs.Placing.{record_is}

module _ {D : Type 0} (held : D → ℕ → Option (List ℕ)) (s : StoreState D) (d : D) (same : held d ≡ held s.device) where
  -- a lane with another log
  log_as : (k log : LogState) (live : List (Entry × Rec)) → k ≡ log → live_on (held d) k ≡ live →
      lane_of held (record s { device = d; log = k }) ≡ record (lane_of held s) { log = log; live = live }
  log_as k log live e f = λ i. record {
    memory = s.memory;
    log = e i;
    live = f i;
    sets = s.sets;
    flights = s.flights;
    visible = visible_in (same i) s.sets;
    moves = s.moves;
  }

  -- a taking from the log is one from the lane
  pub lane_taken : (k : LogState) (set : ℕ) (answer : SetTaken) → TakeGives s.log set (live_on (held s.device) s.log) answer k (live_on (held d) k) →
      LaneTakes set (lane_of held s) answer (lane_of held (record s { device = d; log = k }))
  lane_taken k set (taken.Records rs) gives = (gives.0, log_as k s.log (live_on (held s.device) s.log) gives.1.log gives.1.left)
  lane_taken k set taken.PageLost gives = record { entry = gives.entry; listed = gives.listed; stored = gives.stored; left = log_as k _ _ gives.left gives.live_left }

  -- a lane with other sets
  sets_as : (q sets : SetsState) (visible : ℕ → List (ℕ × Rec)) → q ≡ sets → visible_in (held d) q ≡ visible →
      lane_of held (record s { device = d; sets = q }) ≡ record (lane_of held s) { sets = sets; visible = visible }
  sets_as q sets visible e f = λ i. record {
    memory = s.memory;
    log = s.log;
    live = live_on (same i) s.log;
    sets = e i;
    flights = s.flights;
    visible = f i;
    moves = s.moves;
  }

  -- a reading of a set is one of the lane's
  pub lane_read : (q : SetsState) (set : ℕ) (answer : SetRead) (before after : ℕ) → SetReadLeaves s.sets set (Ok answer) q → SetReadGives (with_flags (notes_of s.sets set) (visible_in (held s.device) s.sets set)) answer before after →
      visible_in (held d) q ≡ shown_after_reading (Ok answer) set (visible_in (held s.device) s.sets) →
      ((notes_of s.sets set).filter ≡ bits.empty → answer ≢ read.PageLost) →
      LaneReads set (lane_of held s) answer (lane_of held (record s { device = d; sets = q }))
  lane_read q set (read.Records rs) before after leaves gives shown asked = (gives, sets_as q s.sets (visible_in (held s.device) s.sets) leaves.0 shown)
  lane_read q set read.PageLost before after leaves gives shown asked = (λ none. asked none refl, sets_as q _ _ leaves shown)

  -- a readmission to the log is one of the lane
  pub lane_readmitted : (size : ℕ) (k : LogState) (e : Entry) (answer : Readmitted) → AreApart s.log.entries →
      ReadmitGives size s.log e (live_on (held s.device) s.log) answer k (live_on (held d) k) →
      LaneReadmits size e (lane_of held s) answer (lane_of held (record s { device = d; log = k }))
  lane_readmitted size k e answer apart gives = step answer gives.moved gives.left
    where
      r : Rec
      r = gives.its

      its : record_of e (live_on (held s.device) s.log) ≡ Some r
      its = record_is (held s.device) s.log e r apart gives.was_live

      new : LaneState
      new = lane_of held (record s { device = d; log = k })

      by_record : (answer : Readmitted) → IsStep (anew_step size (lane_of held s) e (Some r)) answer new → IsStep (readmit_step size e (lane_of held s)) answer new
      by_record answer = subst (λ o. IsStep (anew_step size (lane_of held s) e o) answer new) (sym its)

      step : (answer : Readmitted) → MovesTo size s.log e r answer k → live_on (held d) k ≡ live_anew size s.log e r answer (live_on (held s.device) s.log) → LaneReadmits size e (lane_of held s) answer new
      step readmitted.Readmitted moved left = by_record readmitted.Readmitted (rw moved.0 (refl, log_as k _ _ moved.1 left))
      step readmitted.Dropped moved left = by_record readmitted.Dropped (rw moved.0 (refl, log_as k _ _ moved.1 left))
      step readmitted.Fault moved left = log_as k _ _ moved left
      step readmitted.Damaged moved left = moved

-- if no record is read no page is lost
pub not_lost : (answer : SetRead) (given : Result SetRead AllocError) → given ≡ Ok (read.Records []) → given ≡ Ok answer → answer ≢ read.PageLost
not_lost answer given is was lost = absurd cc

-- a call that only reads fails where it stops, if that is so where it stops for a page of a set that is lost
pub set_failed : (answer : SetRead) (visible : List SetRecord) (before after : ℕ) → MayFail (is_set_lost (Ok answer)) before after → SetReadGives visible answer before after → after ≡ faults_after before (is_set_lost (Ok answer))
set_failed (read.Records rs) visible before after may gives = may
set_failed read.PageLost visible before after may gives = gives

-- ---- what a beginning leaves of a store, on any device

module _ {D : Type 0} (s : StoreState D) (d : D) where
  -- a taking from the log
  pub taking_leaves : (k : LogState) (set : ℕ) (answer : SetTaken) → TakeLeaves s.log set (Ok answer) k → TakingLeaves set s answer (record s { device = d; log = k })
  taking_leaves k set (taken.Records rs) leaves = (leaves.1, log_is s.log leaves.0)
    where
      log_is : (log : LogState) → k ≡ log → HasLog log s (record s { device = d; log = k })
      log_is log is = λ i. record { layout = s.layout; device = d; memory = s.memory; log = is i; sets = s.sets; flights = s.flights; moves = s.moves }
  taking_leaves k set taken.PageLost leaves = record {
    entry = leaves.entry;
    listed = leaves.listed;
    rest = λ i. record { layout = s.layout; device = d; memory = s.memory; log = leaves.left i; sets = s.sets; flights = s.flights; moves = s.moves };
  }

  -- a reading of a set
  pub reading_leaves : (q : SetsState) (set : ℕ) (answer : SetRead) → SetReadLeaves s.sets set (Ok answer) q → ((notes_of s.sets set).filter ≡ bits.empty → answer ≢ read.PageLost) → ReadingLeaves set s answer (record s { device = d; sets = q })
  reading_leaves q set (read.Records rs) leaves asked = (leaves.1, λ i. record { layout = s.layout; device = d; memory = s.memory; log = s.log; sets = leaves.0 i; flights = s.flights; moves = s.moves })
  reading_leaves q set read.PageLost leaves asked = record {
    read = λ none. asked none refl;
    rest = λ i. record { layout = s.layout; device = d; memory = s.memory; log = s.log; sets = leaves i; flights = s.flights; moves = s.moves };
  }

module _ {D : Type 0} where
  -- two calls that leave all
  pub all_again : (old mid new : StoreState D) → HasAll old mid → HasAll mid new → HasAll old new
  all_again old mid new first next = next ∙ ap (λ (x : StoreState D). record x { device = new.device }) first

  -- the page of a set is lost after a call that leaves all
  pub set_lost_after : (set : ℕ) (old mid new : StoreState D) → HasAll old mid → LosesSetPage set mid new → LosesSetPage set old new
  set_lost_after set old mid new first lost = record {
    read = subst (λ (x : StoreState D). (notes_of x.sets set).filter ≢ bits.empty) first lost.read;
    rest = lost.rest ∙ ap (λ (x : StoreState D). record x { device = new.device; sets = forgotten x.sets set }) first;
  }

  -- a move is in flight after a call that leaves all
  pub flown_after : (size set : ℕ) (old mid new : StoreState D) (moving : Moving) (job : Job) → HasAll old mid → moving.set ≡ set → moving.number ≡ mid.moves + 1 → job ≡ job_of size moving →
      new ≡ record mid { flights = mid.flights ++ just_begun mid.log.shape moving ∷ []; moves = mid.moves + 1 } → Flies size set old job new
  flown_after size set old mid new moving job first its number job_is flies = record {
    moving = moving;
    number_is = number ∙ ap (λ (x : StoreState D). x.moves + 1) first;
    set_is = its;
    job_is = job_is;
    rest = flies ∙ ap (λ (x : StoreState D). record x { flights = x.flights ++ just_begun x.log.shape moving ∷ []; moves = x.moves + 1 }) first
        ∙ ap (λ (d : D). record old { device = d; flights = old.flights ++ just_begun old.log.shape moving ∷ []; moves = old.moves + 1 }) (sym (ap (λ (x : StoreState D). x.device) flies));
  }

  -- a beginning with a job: a move of some set is in flight now, after the others
  module _ (size : ℕ) (old : StoreState D) (job : Job) (new : StoreState D) where
    by_entry : (e : Entry) (j : Judgement) → EntryLeaves size e j old (begin.Job job) new → (set : ℕ) × Flies size set old job new
    by_entry e judgement.Move leaves = (e.set, leaves)
    by_entry e judgement.Readmit leaves = absurd (none leaves.answer leaves.told)
      where
        none : (r : Readmitted) → begin.Job job ≡ began_by r → ⊥
        none readmitted.Readmitted is = cc
        none readmitted.Dropped is = cc
        none readmitted.Fault is = cc
        none readmitted.Damaged is = cc
    by_entry e judgement.Drop leaves = let no = leaves.0 in absurd cc

    by_oldest : (o : Oldest) → OldestLeaves size o old (begin.Job job) new → (set : ℕ) × Flies size set old job new
    by_oldest oldest.NoSegment leaves = let no = leaves.0 in absurd cc
    by_oldest oldest.Empty leaves = let no = leaves.0 in absurd cc
    by_oldest oldest.Passed leaves = let no = leaves.0 in absurd cc
    by_oldest (oldest.First e) leaves = by_entry e (judged_in old.layout.threshold old.log e) leaves

    by_moves : (b : Bool) → NextLeaves size b old (begin.Job job) new → (set : ℕ) × Flies size set old job new
    by_moves true leaves = by_oldest (oldest_in (sets_in_flight old.flights) old.log) leaves
    by_moves false leaves = let no = leaves.0 in absurd cc

    by_room : (b : Bool) → RoomLeaves size b old (begin.Job job) new → (set : ℕ) × Flies size set old job new
    by_room true leaves = by_moves (nat_lt old.moves most_moves) leaves
    by_room false leaves = let no = leaves.0 in absurd cc

    pub begun_job : BeginLeaves size old (begin.Job job) new → (set : ℕ) × Flies size set old job new
    begun_job leaves = by_room (nat_lt (length old.flights) most_flights) leaves

  -- a store of which only the device is another, which holds the same, is the same lane
  pub same_lane_held : (held : D → ℕ → Option (List ℕ)) (old new : StoreState D) → HasAll old new → held new.device ≡ held old.device → lane_of held new ≡ lane_of held old
  same_lane_held held old new all same = ap (lane_of held) all ∙ (λ i. record {
    memory = old.memory;
    log = old.log;
    live = live_on (same i) old.log;
    sets = old.sets;
    visible = visible_in (same i) old.sets;
    flights = old.flights;
    moves = old.moves;
  })
