-- What each call leaves of the pairs in memory, on any device.
use Rattle.std.proofs.Common.{◌≡◌, ◌⊎◌, ℕ, Bool, true, false, List, Option, Some, None, Result, Ok, Err, refl, ap, ◌∙◌, subst, ⊎_elim, inl, inr, nat_lt, cond, length}
use Rattle.std.specs.Prelude.{Contains, IfOk, OnErr}
use Rattle.std.specs.declared.alloc.AllocError.{AllocError}
use Rattle.std.proofs.lemmas.List.Elements.{All-contains, All-contains_itself}
use Rattle.record_pages.specs.declared.answer.Answer.{Answer}
use Rattle.record_pages.specs.declared.answer.Answer.TheVariants.{Hit, Miss}
use Rattle.record_pages.specs.declared.tier.Tier.TheVariants.{Memory, Log, Set}
use Rattle.record_pages.specs.declared.pushed.Pushed.{Pushed}
use Rattle.record_pages.specs.declared.pushed.Pushed.TheVariants.{Declined, Logged, Full, IndexFull}
use Rattle.memory_cache.specs.declared.pair.Pair.{Pair}
use Rattle.memory_cache.specs.MemoryList.{MemoryList, after_get, after_put, after_remove, pushed_out}
use Rattle.admission.specs.declared.judgement.Judgement.{Judgement}
use Rattle.admission.specs.declared.judgement.Judgement.TheVariants as judgement
use Rattle.admission.specs.Chance.{is_admitted}
use Rattle.klog.specs.declared.oldest.Oldest.{Oldest}
use Rattle.klog.specs.declared.oldest.Oldest.TheVariants as oldest
use Rattle.klog.specs.Append.{entering, is_full}
use Rattle.klog_index.specs.declared.entry.Entry.{Entry}
use Rattle.record_pages.specs.Recs.{Rec}
use Rattle.policy_laws.specs.declared.choice.Choice.{Choice}
use Rattle.policy_laws.specs.declared.job.Job.{Job}
use Rattle.mover.specs.Store.{StoreState, most_moves}
use Rattle.mover.specs.Lane.{LaneState}
use Rattle.mover.specs.Flight.{most_flights, sets_in_flight}
use Rattle.mover.specs.Oldest.{oldest_in}
use Rattle.mover.specs.Begin.{judged_in}
use Rattle.mover.specs.Leaving.{HasAll, GatheringLeaves, EntryLeaves, OldestLeaves, NextLeaves, RoomLeaves, BeginLeaves}
use Rattle.mover.specs.Calls.{MovingLeaves, GivesUp}
use Rattle.mover.specs.Commit.{CommitLeaves, after_abort}
use Rattle.mover.specs.Asking.{GetLeaves}
use Rattle.mover.specs.Get.{Step}
use Rattle.mover.specs.Put.{put_step, push_step, append_step, lane_appended, stored, IsStep}
use Rattle.mover.specs.declared.begin.Begin.{Begin}
use Rattle.mover.specs.declared.begin.Begin.TheVariants as begin
use Rattle.mover.specs.declared.aborted.Aborted.{Aborted}
use Rattle.mover.specs.declared.aborted.Aborted.TheVariants as aborted
use Rattle.mover.specs.declared.committed.Committed.{Committed}
use Rattle.mover.specs.declared.committed.Committed.TheVariants as committed
use Rattle.mover.specs.declared.moved_whole.MovedWhole.{MovedWhole}
use Rattle.mover.specs.declared.moved_whole.MovedWhole.TheVariants as moved
use Rattle.mover.proofs.public_laws.Keeping.{all_fronted}
use Rattle.mover.proofs.public_laws.Showing.{without_key}

-- ---- moves leave memory as it was

module _ {D : Type 0} (size : ℕ) (old : StoreState D) where
  -- memory is the same
  abbrev Stays : StoreState D → Type 0
  Stays new = new.memory ≡ old.memory

  -- if only other parts are changed it is
  same : (new : StoreState D) (as_told : StoreState D) → new ≡ as_told → as_told.memory ≡ old.memory → Stays new
  same new as_told is stays = ap (λ (s : StoreState D). s.memory) is ∙ stays

  gathering_stays : (set : ℕ) (begun : Begin) (new : StoreState D) → GatheringLeaves size set old begun new → Stays new
  gathering_stays set (begin.Job job) new flies = same new _ flies.rest refl
  gathering_stays set begin.PageLost new lost = ⊎_elim (λ log. same new _ log.rest refl) (λ page. same new _ page.rest refl) lost
  gathering_stays set begin.Nothing new none = absurd none
  gathering_stays set begin.Busy new none = absurd none
  gathering_stays set begin.Freed new none = absurd none
  gathering_stays set begin.Readmitted new none = absurd none
  gathering_stays set begin.Dropped new none = absurd none

  entry_stays : (e : Entry) (j : Judgement) (begun : Begin) (new : StoreState D) → EntryLeaves size e j old begun new → Stays new
  entry_stays e judgement.Move begun new leaves = gathering_stays e.set begun new leaves
  entry_stays e judgement.Readmit begun new leaves = same new _ leaves.rest refl
  entry_stays e judgement.Drop begun new leaves = same new _ leaves.1 refl

  oldest_stays : (o : Oldest) (begun : Begin) (new : StoreState D) → OldestLeaves size o old begun new → Stays new
  oldest_stays oldest.NoSegment begun new leaves = same new _ leaves.1 refl
  oldest_stays oldest.Empty begun new leaves = same new _ leaves.1 refl
  oldest_stays oldest.Passed begun new leaves = same new _ leaves.1 refl
  oldest_stays (oldest.First e) begun new leaves = entry_stays e (judged_in old.layout.threshold old.log e) begun new leaves

  next_stays : (b : Bool) (begun : Begin) (new : StoreState D) → NextLeaves size b old begun new → Stays new
  next_stays true begun new leaves = oldest_stays (oldest_in (sets_in_flight old.flights) old.log) begun new leaves
  next_stays false begun new leaves = same new _ leaves.1 refl

  room_stays : (b : Bool) (begun : Begin) (new : StoreState D) → RoomLeaves size b old begun new → Stays new
  room_stays true begun new leaves = next_stays (nat_lt old.moves most_moves) begun new leaves
  room_stays false begun new leaves = same new _ leaves.1 refl

  begin_stays : (begun : Begin) (new : StoreState D) → BeginLeaves size old begun new → Stays new
  begin_stays begun new leaves = room_stays (nat_lt (length old.flights) most_flights) begun new leaves

  pub moving_stays : (plan_of : Job → List Choice) (answer : MovedWhole) (new : StoreState D) → MovingLeaves size plan_of old answer new → Stays new
  moving_stays plan_of moved.Written new ends = same new _ ends.landed.left (begin_stays (begin.Job ends.job) ends.between ends.begun)
  moving_stays plan_of moved.Forgotten new ends = same new _ ends.landed.left (begin_stays (begin.Job ends.job) ends.between ends.begun)
  moving_stays plan_of moved.Nothing new leaves = begin_stays begin.Nothing new leaves
  moving_stays plan_of moved.Busy new leaves = begin_stays begin.Busy new leaves
  moving_stays plan_of moved.Freed new leaves = begin_stays begin.Freed new leaves
  moving_stays plan_of moved.Readmitted new leaves = begin_stays begin.Readmitted new leaves
  moving_stays plan_of moved.Dropped new leaves = begin_stays begin.Dropped new leaves
  moving_stays plan_of moved.PageLost new leaves = begin_stays begin.PageLost new leaves

  pub refused_stays : (new : StoreState D) → HasAll old new ⊎ GivesUp size old new → Stays new
  refused_stays new (inl all) = same new _ all refl
  refused_stays new (inr up) = same new _ up.rest (begin_stays (begin.Job up.job) up.between up.begun)

  -- so by what a whole move answers
  pub moved_stays : (plan_of : Job → List Choice) (result : Result MovedWhole AllocError) (new : StoreState D) → IfOk result (λ answer. MovingLeaves size plan_of old answer new) → OnErr result (HasAll old new ⊎ GivesUp size old new) → Stays new
  moved_stays plan_of (Ok answer) new leaves refused = moving_stays plan_of answer new leaves
  moved_stays plan_of (Err e) new leaves refused = refused_stays new refused

  -- so by what the beginning of a move answers
  pub begun_stays : (result : Result Begin AllocError) (new : StoreState D) → IfOk result (λ begun. BeginLeaves size old begun new) → OnErr result (HasAll old new) → Stays new
  begun_stays (Ok begun) new leaves refused = begin_stays begun new leaves
  begun_stays (Err e) new leaves refused = same new _ refused refl

  -- by what a commit answers
  pub committed_stays : (plan : List Choice) (number : ℕ) (answer : Committed) (new : StoreState D) → CommitLeaves plan number old answer new → Stays new
  committed_stays plan number committed.Written new leaves = same new _ leaves.left refl
  committed_stays plan number committed.Forgotten new leaves = same new _ leaves.left refl
  committed_stays plan number committed.StalePlan new leaves = same new _ leaves refl
  committed_stays plan number committed.BadPlan new leaves = same new _ leaves refl

  -- and by what an abort answers, which keeps the device too
  pub aborted_stays : (number : ℕ) (answer : Aborted) (new : StoreState D) → new ≡ after_abort number answer old → Stays new × (new.device ≡ old.device)
  aborted_stays number aborted.Aborted new leaves = (same new _ leaves refl, ap (λ (s : StoreState D). s.device) leaves)
  aborted_stays number aborted.StalePlan new leaves = (same new _ leaves refl, ap (λ (s : StoreState D). s.device) leaves)

  -- a get leaves the pairs, or brings one to the front; a refused one leaves them
  get_leaves : (key : List ℕ) (answer : Answer) (new : StoreState D) → GetLeaves key answer old new → (new.memory ≡ after_get key old.memory) ⊎ Stays new
  get_leaves key (Hit value Memory) new leaves = inl (ap (λ (s : StoreState D). s.memory) leaves.rest)
  get_leaves key (Hit value Log) new leaves = inr (same new _ leaves.rest refl)
  get_leaves key (Hit value Set) new leaves = inr (same new _ leaves.rest refl)
  get_leaves key (Miss cause) new leaves = inr (same new _ leaves refl)

  -- no pair is new
  abbrev pub IsFewer : StoreState D → Type 0
  IsFewer new = (p : Pair) → Contains new.memory.pairs p → Contains old.memory.pairs p

  -- if memory is the same
  pub fewer_same : (new : StoreState D) → Stays new → IsFewer new
  fewer_same new stays p = subst (λ (m : MemoryList). Contains m.pairs p) stays

  -- after a get
  pub fewer_got : (key : List ℕ) (result : Result Answer AllocError) (new : StoreState D) → IfOk result (λ answer. GetLeaves key answer old new) → OnErr result (HasAll old new) → IsFewer new
  fewer_got key (Ok answer) new leaves refused p = elim (get_leaves key answer new leaves) [
    | inl raised ↦ All-contains (Contains old.memory.pairs) new.memory.pairs p (all_fronted (Contains old.memory.pairs) old.memory new.memory key raised (All-contains_itself old.memory.pairs))
    | inr stays ↦ fewer_same new stays p
  ]
  fewer_got key (Err e) new leaves refused p = fewer_same new (same new _ refused refl) p

  -- after a removal
  pub fewer_removed : (key : List ℕ) (new : StoreState D) → new.memory ≡ after_remove key old.memory → IsFewer new
  fewer_removed key new is p here = (without_key key old.memory.pairs p (subst (λ (m : MemoryList). Contains m.pairs p) is here)).0

-- ---- a put leaves memory as its list says

-- if a pair that was pushed out enters the log, memory stays
append_stays : (size : ℕ) (r : Rec) (lane : LaneState) → (append_step size r lane).lane.memory ≡ lane.memory
append_stays size r lane = step (nat_lt (length lane.log.entries) lane.log.shape.limit) (is_full size lane.log r)
  where
    answer : Pushed → LaneState → Step Pushed
    answer pushed after = record { reply = pushed; lane = after }

    step : (b full : Bool) → (cond {A = Step Pushed} b (cond {A = Step Pushed} full (answer Full lane) (answer Logged (lane_appended size lane r))) (answer IndexFull lane)).lane.memory ≡ lane.memory
    step true true = refl
    step true false = refl
    step false full = refl

push_stays : (size admit word : ℕ) (out : Option Pair) (lane : LaneState) → (push_step size admit word out lane).lane.memory ≡ lane.memory
push_stays size admit word None lane = refl
push_stays size admit word (Some out) lane = step (is_admitted admit word)
  where
    declined : Step Pushed
    declined = record { reply = Declined; lane = lane }

    step : (b : Bool) → (cond {A = Step Pushed} b (append_step size (entering out.key out.value) lane) declined).lane.memory ≡ lane.memory
    step true = append_stays size (entering out.key out.value) lane
    step false = refl

pub put_leaves : (size admit word : ℕ) (p : Pair) (pushed : Pushed) (lane new : LaneState) → IsStep (put_step size admit p word lane) pushed new → new.memory ≡ after_put p lane.memory
put_leaves size admit word p pushed lane new steps =
    ap (λ (l : LaneState). l.memory) steps.1 ∙ push_stays size admit word (pushed_out p lane.memory) (stored p lane)
