-- What a move keeps of a lane's order.
use Rattle.std.proofs.Common.{◌≡◌, ℕ, Bool, true, false, not, List, [], Option, Some, None, cond, ⊎_elim, refl, sym, subst, Contains, eqb}
use Rattle.std.specs.Prelude.{filter}
use Rattle.std.proofs.lemmas.List.Elements.{All-nil, All-push, All-filter, All-contains}
use Rattle.record_pages.specs.Recs.{Rec}
use Rattle.policy_laws.specs.declared.choice.Choice.{Choice}
use Rattle.admission.specs.declared.judgement.Judgement.{Judgement}
use Rattle.admission.specs.declared.judgement.Judgement.TheVariants as judgement
use Rattle.klog_index.specs.declared.entry.Entry.{Entry}
use Rattle.klog_index.specs.Entries.{is_in}
use Rattle.klog.specs.declared.oldest.Oldest.{Oldest}
use Rattle.klog.specs.declared.oldest.Oldest.TheVariants as oldest
use Rattle.klog.specs.declared.readmitted.Readmitted.{Readmitted}
use Rattle.klog.specs.declared.readmitted.Readmitted.TheVariants as readmitted
use Rattle.klog.specs.Names.{segment_of}
use Rattle.klog.specs.Append.{entering, is_full}
use Rattle.klog.specs.Flush.{is_on_page}
use Rattle.klog.specs.Moves.{dropped, is_taken, without_entry, without_its_page}
use Rattle.kset.specs.declared.rewritten.Rewritten.{Rewritten}
use Rattle.kset.specs.declared.rewritten.Rewritten.TheVariants as rewritten
use Rattle.kset.specs.Laws.{IsKeyOf, AreOfTheirSets}
use Rattle.kset.specs.After.{shown_after_rewriting}
use Rattle.kset.proofs.public_laws.MovingLaws.{rewritings_keep}
use Rattle.mover.specs.Flight.{Flight, unstruck, AreOfSet, records_of, just_begun}
use Rattle.mover.specs.Job.{job_of}
use Rattle.mover.specs.Lane.{LaneState}
use Rattle.mover.specs.Get.{Step}
use Rattle.mover.specs.Put.{lane_appended}
use Rattle.mover.specs.Oldest.{record_of}
use Rattle.mover.specs.Begin.{lane_freed, lane_without_entry, lane_without_page, lane_forgotten, lane_begun, moving_of, anew_step, judged, entry_step, oldest_step, begin_step, LosesPage, BeginGives}
use Rattle.mover.specs.Commit.{planned_of, committed, IsFitting, Commits, CommitGives, given_up, AbortGives}
use Rattle.mover.specs.declared.begin.Begin.{Begin}
use Rattle.mover.specs.declared.begin.Begin.TheVariants as begin
use Rattle.mover.specs.declared.committed.Committed.{Committed}
use Rattle.mover.specs.declared.committed.Committed.TheVariants as answers
use Rattle.mover.specs.declared.aborted.Aborted.{Aborted}
use Rattle.mover.specs.declared.aborted.Aborted.TheVariants as aborted
use Rattle.mover.specs.Laws.{AreMarked, IsInOrder}
use Rattle.mover.proofs.public_laws.FlightLists.{held_found}
use Rattle.mover.proofs.Flying.{fresh_hashes}
use Rattle.mover.proofs.Gathering.{moving_placed, planned_placed}
use Rattle.mover.proofs.MovingShows.{begins_by}
use Rattle.mover.proofs.OrderKept.{KeepsOrder, in_order, dying_kept, appended_kept}

module _ (size least : ℕ) (lane : LaneState) (was : IsInOrder lane) where
  -- a lane of which an entry's record died
  gone_kept : (e : Entry) → KeepsOrder lane (lane_without_entry e lane)
  gone_kept e = dying_kept lane was (without_entry lane.log e).entries (λ (x : Entry × Rec). not (is_in e.set e.place x.0))

  -- a lane of which a page of the log was lost
  page_kept : (e : Entry) → KeepsOrder lane (lane_without_page e lane)
  page_kept e = dying_kept lane was (without_its_page lane.log e).entries (λ (x : Entry × Rec). not (is_on_page lane.log (segment_of lane.log e) e.place.page x.0))

  -- a lane of which a set was forgotten
  set_kept : (set : ℕ) → KeepsOrder lane (lane_forgotten set lane)
  set_kept set =
      in_order lane (lane_forgotten set lane) refl was.placed.log
      (rewritings_keep lane.log.shape.lanes lane.log.shape.sets set [] rewritten.Forgotten lane.visible (All-nil (λ (r : Rec). IsKeyOf lane.log.shape.lanes lane.log.shape.sets set r.key)) was.placed.sets) was.placed.flight was.marked

  -- what becomes of an entry keeps a lane in order
  entry_kept : (e : Entry) (j : Judgement) → KeepsOrder lane (entry_step size lane e j).lane
  entry_kept e judgement.Move =
      let begun : Flight = just_begun lane.log.shape (moving_of lane e.set) in
      in_order lane (lane_begun lane e.set) refl was.placed.log was.placed.sets
      (All-push (λ (f : Flight). AreOfSet lane.log.shape f.moving) lane.flights begun was.placed.flight (moving_placed lane e.set was.placed.log was.placed.sets))
      (All-push (AreMarked lane.log.shape) lane.flights begun was.marked (fresh_hashes lane.log.shape (records_of (moving_of lane e.set))))
  entry_kept e judgement.Drop = gone_kept e
  entry_kept e judgement.Readmit = by_record (record_of e lane.live)
    where
      again : (r : Rec) → KeepsOrder lane (lane_appended size (lane_without_entry e lane) (entering r.key r.value))
      again r = let first = gone_kept e in let next = appended_kept (lane_without_entry e lane) first.1 size (entering r.key r.value) in (next.0, next.1)

      by_full : (r : Rec) (b : Bool) →
          KeepsOrder lane (cond {A = Step Readmitted} b (record { reply = readmitted.Dropped; lane = lane_without_entry e lane })
          (record { reply = readmitted.Readmitted; lane = lane_appended size (lane_without_entry e lane) (entering r.key r.value) })).lane
      by_full r true = gone_kept e
      by_full r false = again r

      by_record : (o : Option Rec) → KeepsOrder lane (anew_step size lane e o).lane
      by_record None = gone_kept e
      by_record (Some r) = by_full r (is_full size (without_entry lane.log e) (entering r.key r.value))

  oldest_kept : (o : Oldest) → KeepsOrder lane (oldest_step size least lane o).lane
  oldest_kept oldest.NoSegment = (refl, was)
  oldest_kept oldest.Empty = in_order lane (lane_freed lane) refl was.placed.log was.placed.sets was.placed.flight was.marked
  oldest_kept oldest.Passed = (refl, was)
  oldest_kept (oldest.First e) = entry_kept e (judged least lane e)

  -- so does how a move begins
  pub begin_step_kept : KeepsOrder lane (begin_step size least lane).lane
  begin_step_kept = begins_by size least lane (λ step. KeepsOrder lane step.lane) (refl, was) (refl, was) oldest_kept

  -- and a page that is lost as it begins
  lost_kept : (e : Entry) (new : LaneState) (j : Judgement) → LosesPage size e lane j new → KeepsOrder lane new
  lost_kept e new judgement.Drop lost = absurd lost
  lost_kept e new judgement.Readmit lost = subst (KeepsOrder lane) (sym lost) (page_kept e)
  lost_kept e new judgement.Move lost =
      ⊎_elim (λ log. subst (KeepsOrder lane) (sym log.left) (page_kept log.entry)) (λ set. subst (KeepsOrder lane) (sym set.1) (set_kept e.set)) lost

  -- what a beginning leaves is in order
  pub begun_kept : (b : Begin) (new : LaneState) → BeginGives size least lane b new → KeepsOrder lane new
  begun_kept b new = by_answer b
    where
      stepped : new ≡ (begin_step size least lane).lane → KeepsOrder lane new
      stepped is = subst (KeepsOrder lane) (sym is) begin_step_kept

      by_answer : (b : Begin) → BeginGives size least lane b new → KeepsOrder lane new
      by_answer begin.PageLost gives = lost_kept gives.first new (judged least lane gives.first) gives.lost
      by_answer begin.Nothing gives = stepped gives.1
      by_answer begin.Busy gives = stepped gives.1
      by_answer begin.Freed gives = stepped gives.1
      by_answer begin.Readmitted gives = stepped gives.1
      by_answer begin.Dropped gives = stepped gives.1
      by_answer (begin.Job job) gives = stepped gives.1

-- if a move is no longer in flight a lane stays in order
given_up_kept : (number : ℕ) (lane : LaneState) → IsInOrder lane → KeepsOrder lane (given_up number lane)
given_up_kept number lane was =
    let others : Flight → Bool = λ f. not (eqb f.moving.number number) in
    in_order lane (given_up number lane) refl was.placed.log was.placed.sets (All-filter others (λ (f : Flight). AreOfSet lane.log.shape f.moving) lane.flights was.placed.flight)
    (All-filter others (AreMarked lane.log.shape) lane.flights was.marked)

-- a commit keeps a lane in order
pub committed_kept : (size : ℕ) (f : Flight) (plan : List Choice) (answer : Rewritten) (lane : LaneState) → IsInOrder lane → Contains lane.flights f → IsFitting (job_of size f.moving) plan → KeepsOrder lane (committed f plan answer lane)
committed_kept size f plan answer lane was flying fitting = by_answer answer
  where
    flown : AreOfSet lane.log.shape f.moving
    flown = All-contains (λ (g : Flight). AreOfSet lane.log.shape g.moving) lane.flights f was.placed.flight flying

    rewritten_kept : (answer : Rewritten) → AreOfTheirSets lane.log.shape.lanes lane.log.shape.sets (shown_after_rewriting answer f.moving.set (planned_of f.moving (unstruck f plan)) lane.visible)
    rewritten_kept answer =
        rewritings_keep lane.log.shape.lanes lane.log.shape.sets f.moving.set (planned_of f.moving (unstruck f plan)) answer lane.visible (planned_placed size lane.log.shape f plan fitting flown) was.placed.sets

    taken : KeepsOrder lane (record lane { log = dropped lane.log f.moving.set f.moving.taken; live = filter (λ (x : Entry × Rec). not (is_taken lane.log f.moving.set f.moving.taken x.0)) lane.live })
    taken = dying_kept lane was (dropped lane.log f.moving.set f.moving.taken).entries (λ (x : Entry × Rec). not (is_taken lane.log f.moving.set f.moving.taken x.0))

    left : IsInOrder (given_up f.moving.number lane)
    left = (given_up_kept f.moving.number lane was).1

    by_answer : (answer : Rewritten) → KeepsOrder lane (committed f plan answer lane)
    by_answer rewritten.Written = in_order lane (committed f plan rewritten.Written lane) refl taken.1.placed.log (rewritten_kept rewritten.Written) left.placed.flight left.marked
    by_answer rewritten.Forgotten = in_order lane (committed f plan rewritten.Forgotten lane) refl taken.1.placed.log (rewritten_kept rewritten.Forgotten) left.placed.flight left.marked

-- so does each answer of a commit
pub commit_kept : (size : ℕ) (plan : List Choice) (number : ℕ) (old new : LaneState) (answer : Committed) → IsInOrder old → CommitGives size plan number old answer new → KeepsOrder old new
commit_kept size plan number old new answer was = by_answer answer
  where
    so : (ended : Rewritten) → Commits size plan number ended old new → KeepsOrder old new
    so ended is = subst (KeepsOrder old) (sym is.ended) (committed_kept size is.its plan ended old was (held_found number old.flights is.its is.flies) is.fits)

    by_answer : (answer : Committed) → CommitGives size plan number old answer new → KeepsOrder old new
    by_answer answers.Written is = so rewritten.Written is
    by_answer answers.Forgotten is = so rewritten.Forgotten is
    by_answer answers.StalePlan is = subst (KeepsOrder old) (sym is.1) (refl, was)
    by_answer answers.BadPlan is = subst (KeepsOrder old) (sym is.1) (refl, was)

-- and each of an abort
pub abort_kept : (number : ℕ) (old new : LaneState) (answer : Aborted) → IsInOrder old → AbortGives number old answer new → KeepsOrder old new
abort_kept number old new aborted.Aborted was is = subst (KeepsOrder old) (sym is.1) (given_up_kept number old was)
abort_kept number old new aborted.StalePlan was is = subst (KeepsOrder old) (sym is.1) (refl, was)
