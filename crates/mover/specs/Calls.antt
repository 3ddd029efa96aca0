-- What each call of a store does: one record a call, over the store before it, what it answers, and the store after it.
use Rattle.std.specs.Prelude.{◌≡◌, ◌<◌, ◌↔◌, ◌⊎◌, ℕ, List, Option, Some, None, Bool, Result, IsErrOf, IfOk, OnErr, IsSome, IsTrue}
use Rattle.std.specs.declared.alloc.AllocError.{AllocError}
use Rattle.page_device.specs.Device.{faults_after}
use Rattle.record_pages.specs.Expiry.{value_at}
use Rattle.record_pages.specs.Recs.{Rec}
use Rattle.record_pages.specs.Sizes.{object_size, room}
use Rattle.record_pages.specs.declared.answer.Answer.{Answer}
use Rattle.record_pages.specs.declared.answer.Answer.TheVariants.{Hit, Miss}
use Rattle.record_pages.specs.declared.miss_cause.MissCause.TheVariants.{Expired}
use Rattle.record_pages.specs.declared.timed_value.TimedValue.{TimedValue}
use Rattle.record_pages.specs.declared.tier.Tier.TheVariants.{Memory, Log}
use Rattle.record_pages.specs.declared.pushed.Pushed.{Pushed}
use Rattle.record_pages.specs.declared.put_fault.PutFault.{PutFault}
use Rattle.record_pages.specs.declared.put_fault.PutFault.TheVariants.{TooLarge}
use Rattle.kset.specs.declared.rewritten.Rewritten.{Rewritten}
use Rattle.kset.specs.declared.rewritten.Rewritten.TheVariants as rewritten
use Rattle.policy_laws.specs.declared.choice.Choice.{Choice}
use Rattle.policy_laws.specs.declared.job.Job.{Job}
use Rattle.memory_cache.specs.declared.pair.Pair.{Pair}
use Rattle.memory_cache.specs.MemoryList.{value_in}
use Rattle.klog_index.specs.declared.entry.Entry.{Entry}
use Rattle.klog.specs.declared.flushed.Flushed.{Flushed}
use Rattle.klog.specs.Flush.{is_page_lost, FlushGives}
use Rattle.klog.specs.Look.{lowered_in, IsInBuffers}
use Rattle.record_pages.specs.declared.looked.Looked.TheVariants as look
use Rattle.record_pages.specs.declared.looked.Looked.{Looked}
use Rattle.klog.specs.Shown.{place_in}
use Rattle.mover.specs.Store.{StoreState, OnlyReads}
use Rattle.mover.specs.Lane.{lane_of}
use Rattle.mover.specs.Get.{GetGives, answer_by, is_fault}
use Rattle.mover.specs.Asking.{AsksNothing, IfThen, GetLeaves}
use Rattle.mover.specs.Put.{put_step, IsStep}
use Rattle.mover.specs.PutBack.{put_back_step}
use Rattle.mover.specs.declared.copy_fate.CopyFate.{CopyFate}
use Rattle.mover.specs.Strike.{removed}
use Rattle.mover.specs.Flush.{LaneFlushes}
use Rattle.mover.specs.Flight.{without_flight}
use Rattle.mover.specs.Begin.{WritesNothing, is_lost, begin_step, BeginGives, lane_counted}
use Rattle.mover.specs.Laws.{IsPlannedFor}
use Rattle.mover.specs.Leaving.{HasAll, BeginLeaves}
use Rattle.mover.specs.Commit.{CommitAnswers, CommitLeaves, CommitGives, AbortGives, is_unwritten, after_abort, Lands}
use Rattle.mover.specs.Whole.{MoveGives, is_failed}
use Rattle.mover.specs.declared.begin.Begin.{Begin}
use Rattle.mover.specs.declared.begin.Begin.TheVariants as begin
use Rattle.mover.specs.declared.committed.Committed.{Committed}
use Rattle.mover.specs.declared.aborted.Aborted.{Aborted}
use Rattle.mover.specs.declared.moved_whole.MovedWhole.{MovedWhole}
use Rattle.mover.specs.declared.moved_whole.MovedWhole.TheVariants as moved

-- an entry of a set is asked for once more, and nothing else changes, the device neither
abbrev pub IsLowered : {D : Type 0} → ℕ → Entry → StoreState D → StoreState D → Type 0
IsLowered set e old new = new ≡ record old { log = lowered_in old.log set e.place }

-- what the log tells by what a record that its buffers tell of gives: its value, and its entry is lowered; or that it has
-- expired, and all stays
abbrev pub TellsRecord : {D : Type 0} → Option (List ℕ) → ℕ → Entry → StoreState D → Looked → StoreState D → Type 0
TellsRecord (Some value) set e old looked new = (looked ≡ look.Hit value) × IsLowered set e old new
TellsRecord None set e old looked new = (looked ≡ look.Expired) × (new ≡ old)

-- the same of an answer
abbrev pub AnswersRecord : {D : Type 0} → Option (List ℕ) → ℕ → Entry → StoreState D → Answer → StoreState D → Type 0
AnswersRecord (Some value) set e old answer new = (answer ≡ Hit value Log) × IsLowered set e old new
AnswersRecord None set e old answer new = (answer ≡ Miss Expired) × (new ≡ old)

-- a get of a key of which the log's buffers tell a record answers by that
abbrev pub AnswersFromBuffers : {D : Type 0} → List ℕ → ℕ → Entry → Rec → StoreState D → Answer → StoreState D → Type 0
AnswersFromBuffers key moment e r old answer new = AnswersRecord (value_at moment r.value) (place_in old.log.shape key).set e old answer new

-- A get. On any device no page is written, the device has failed exactly when a fault is answered, and the answer says
-- what is left; what memory has is answered at once, and otherwise what the log's buffers tell of the key. If the device is
-- honest, answer and lane are those of a get's step, and a fault comes only if a page is needed.
pub record StoreGets {D : Type 0} (size : ℕ) (honest : D → Bool) (failures : D → ℕ) (held : D → ℕ → Option (List ℕ)) (key : List ℕ) (moment : ℕ) (old : StoreState D) (result : Result Answer AllocError) (new : StoreState D) : Type 0 where
  pub reads : OnlyReads honest failures held old (is_fault result) new
  pub leaves : IfOk result (λ answer. GetLeaves key answer old new)
  pub out_of_memory : OnErr result (HasAll old new)
  pub in_memory : (v : TimedValue) → value_in key old.memory.pairs ≡ Some v → IfOk result (λ answer. answer ≡ answer_by (value_at moment v) Memory)
  pub unread : IsSome (value_in key old.memory.pairs) → new.device ≡ old.device
  pub in_buffers : (e : Entry) (r : Rec) → value_in key old.memory.pairs ≡ None → IsInBuffers size old.log (place_in old.log.shape key).set (place_in old.log.shape key).tag key e r →
      IfOk result (λ answer. AnswersFromBuffers key moment e r old answer new)
  pub unasked : IfThen (AsksNothing key old) (new.device ≡ old.device)
  pub gives : IsTrue (honest old.device) → IfOk result (λ answer. GetGives key moment (lane_of held old) answer (lane_of held new))

-- A put. It makes no call of the device, and is a put's step whatever the device.
pub record StorePuts {D : Type 0} (size : ℕ) (held : D → ℕ → Option (List ℕ)) (p : Pair) (word : ℕ) (old : StoreState D) (result : Result Pushed PutFault) (new : StoreState D) : Type 0 where
  pub layout : new.layout ≡ old.layout
  pub device : new.device ≡ old.device
  pub too_large : IsErrOf result TooLarge ↔ (room size < object_size p.key p.value.value)
  pub err : OnErr result (new ≡ old)
  pub gives : IfOk result (λ pushed. IsStep (put_step size old.layout.admit p word (lane_of held old)) pushed (lane_of held new))

-- A copy that memory has no room for is put back. It makes no call of the device, and is its step whatever the device.
pub record StorePutsBack {D : Type 0} (size : ℕ) (held : D → ℕ → Option (List ℕ)) (p : Pair) (old : StoreState D) (fate : CopyFate) (new : StoreState D) : Type 0 where
  pub layout : new.layout ≡ old.layout
  pub device : new.device ≡ old.device
  pub gives : IsStep (put_back_step size p (lane_of held old)) fate (lane_of held new)

-- A removal. It makes no call of the device, and is so whatever the device.
pub record StoreRemoves {D : Type 0} (held : D → ℕ → Option (List ℕ)) (key : List ℕ) (old new : StoreState D) : Type 0 where
  pub layout : new.layout ≡ old.layout
  pub device : new.device ≡ old.device
  pub removed : lane_of held new ≡ removed key (lane_of held old)

-- A step of flushing. On any device it changes the log alone, as is answered; if the device is honest, the lane so.
pub record StoreFlushes {D : Type 0} (honest : D → Bool) (failures : D → ℕ) (held : D → ℕ → Option (List ℕ)) (old : StoreState D) (flushed : Flushed) (new : StoreState D) : Type 0 where
  pub rest : new ≡ record old { device = new.device; log = new.log }
  pub honesty : honest new.device ≡ honest old.device
  pub faults : failures new.device ≡ faults_after (failures old.device) (is_page_lost flushed)
  pub flushes : FlushGives old.log flushed new.log
  pub gives : IsTrue (honest old.device) → LaneFlushes (lane_of held old) flushed (lane_of held new)

-- The beginning of a move. No page is written. On any device it leaves the store as is answered; if the device is
-- honest it has failed exactly when a page is lost, and the lane is as a beginning gives.
pub record StoreBegins {D : Type 0} (size : ℕ) (honest : D → Bool) (failures : D → ℕ) (held : D → ℕ → Option (List ℕ)) (old : StoreState D) (result : Result Begin AllocError) (new : StoreState D) : Type 0 where
  pub writes : WritesNothing honest held old new
  pub leaves : IfOk result (λ begun. BeginLeaves size old begun new)
  pub out_of_memory : OnErr result (HasAll old new)
  pub faults : IsTrue (honest old.device) → failures new.device ≡ faults_after (failures old.device) (is_lost result)
  pub gives : IsTrue (honest old.device) → IfOk result (λ begun. BeginGives size old.layout.threshold (lane_of held old) begun (lane_of held new))
  pub lane_stays : IsTrue (honest old.device) → OnErr result (lane_of held new ≡ lane_of held old)

-- The end of a move by a plan.
pub record StoreCommits {D : Type 0} (size : ℕ) (honest : D → Bool) (failures : D → ℕ) (held : D → ℕ → Option (List ℕ)) (plan : List Choice) (number : ℕ) (old : StoreState D) (answer : Committed) (new : StoreState D) : Type 0 where
  pub honesty : honest new.device ≡ honest old.device
  pub faults : failures new.device ≡ faults_after (failures old.device) (is_unwritten answer)
  pub answers : CommitAnswers size plan number old.flights answer
  pub leaves : CommitLeaves plan number old answer new
  pub gives : IsTrue (honest old.device) → CommitGives size plan number (lane_of held old) answer (lane_of held new)

-- The giving up of a move. It makes no call of the device, and is so whatever the device.
pub record StoreAborts {D : Type 0} (held : D → ℕ → Option (List ℕ)) (number : ℕ) (old : StoreState D) (answer : Aborted) (new : StoreState D) : Type 0 where
  pub leaves : new ≡ after_abort number answer old
  pub gives : AbortGives number (lane_of held old) answer (lane_of held new)

-- a whole move had a job, and ended by the policy's plan
pub record Ends {D : Type 0} (size : ℕ) (plan_of : Job → List Choice) (ended : Rewritten) (old new : StoreState D) : Type 0 where
  pub job : Job
  pub between : StoreState D
  pub begun : BeginLeaves size old (begin.Job job) between
  pub landed : Lands (plan_of job) job.number ended between new

-- it had a job, and was given up, since the policy was refused memory; the other moves stay in flight
pub record GivesUp {D : Type 0} (size : ℕ) (old new : StoreState D) : Type 0 where
  pub job : Job
  pub between : StoreState D
  pub begun : BeginLeaves size old (begin.Job job) between
  pub rest : new ≡ record between { flights = without_flight job.number between.flights }

-- what a whole move leaves of a store, on any device, by what it answers
abbrev pub MovingLeaves : {D : Type 0} → ℕ → (Job → List Choice) → StoreState D → MovedWhole → StoreState D → Type 0
MovingLeaves size plan_of old moved.Written new = Ends size plan_of rewritten.Written old new
MovingLeaves size plan_of old moved.Forgotten new = Ends size plan_of rewritten.Forgotten old new
MovingLeaves size plan_of old moved.Nothing new = BeginLeaves size old begin.Nothing new
MovingLeaves size plan_of old moved.Busy new = BeginLeaves size old begin.Busy new
MovingLeaves size plan_of old moved.Freed new = BeginLeaves size old begin.Freed new
MovingLeaves size plan_of old moved.Readmitted new = BeginLeaves size old begin.Readmitted new
MovingLeaves size plan_of old moved.Dropped new = BeginLeaves size old begin.Dropped new
MovingLeaves size plan_of old moved.PageLost new = BeginLeaves size old begin.PageLost new

-- A whole move by a policy. On any device it leaves the store as is answered; if the device is honest it has failed exactly
-- when a page is lost or not written, the lane is as a whole move gives, and the policy's plan was lawful.
pub record StoreMoves {D : Type 0} (size : ℕ) (honest : D → Bool) (failures : D → ℕ) (held : D → ℕ → Option (List ℕ)) (plan_of : Job → List Choice) (old : StoreState D) (result : Result MovedWhole AllocError) (new : StoreState D) : Type 0 where
  pub layout : new.layout ≡ old.layout
  pub honesty : honest new.device ≡ honest old.device
  pub leaves : IfOk result (λ moved. MovingLeaves size plan_of old moved new)
  pub out_of_memory : OnErr result (HasAll old new ⊎ GivesUp size old new)
  pub faults : IsTrue (honest old.device) → failures new.device ≡ faults_after (failures old.device) (is_failed result)
  pub gives : IsTrue (honest old.device) → IfOk result (λ moved. MoveGives size old.layout.threshold plan_of (lane_of held old) moved (lane_of held new))
  pub lane_stays : IsTrue (honest old.device) → OnErr result ((lane_of held new ≡ lane_of held old) ⊎ (lane_of held new ≡ lane_counted (lane_of held old)))
  pub planned : IsTrue (honest old.device) → IfOk result (λ moved. IsPlannedFor plan_of moved (begin_step size old.layout.threshold (lane_of held old)).reply)
