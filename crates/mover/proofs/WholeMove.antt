-- What a whole move does, by how it began and ended.
use Rattle.std.proofs.Common.{◌≡◌, ◌≤◌, ℕ, Bool, List, Option, All, inl, inr, refl, sym, ap, subst, ◌∙◌}
use Rattle.std.specs.Prelude.{Result, Ok, Err, IsTrue}
use Rattle.std.specs.declared.alloc.AllocError.{AllocError}
use Rattle.page_device.specs.Device.{faults_after}
use Rattle.policy_laws.specs.Laws.{IsLawful}
use Rattle.policy_laws.specs.declared.choice.Choice.{Choice}
use Rattle.policy_laws.specs.declared.job.Job.{Job}
use Rattle.kset.specs.declared.rewritten.Rewritten.{Rewritten}
use Rattle.mover.specs.Store.{StoreState}
use Rattle.mover.specs.Lane.{LaneState, lane_of}
use Rattle.mover.specs.Flight.{Flight, flight_of, without_flight}
use Rattle.mover.specs.Begin.{WritesNothing, begin_step}
use Rattle.mover.specs.Calls.{MovingLeaves, StoreBegins, StoreMoves}
use Rattle.mover.specs.Commit.{Commits}
use Rattle.mover.specs.Laws.{IsPlannedFor}
use Rattle.mover.specs.Whole.{ended_by, MoveGives, EndGives, EndLeaves, is_failed}
use Rattle.mover.specs.declared.begin.Begin.TheVariants as begin
use Rattle.mover.specs.declared.moved_whole.MovedWhole.{MovedWhole}
use Rattle.mover.specs.declared.moved_whole.MovedWhole.TheVariants as moved
use Rattle.mover.proofs.Ending.{after_nothing, after_busy, after_freed, after_readmitted, after_dropped, after_job, ends_leaves, counted_lane, planned_job}

module _ {D : Type 0} (size : ℕ) (honest : D → Bool) (failures : D → ℕ) (held : D → ℕ → Option (List ℕ)) (plan_of : Job → List Choice) (old : StoreState D) where
  module _ (new : StoreState D) where
    -- a move that had no job is over
    over : (answer : MovedWhole) → WritesNothing honest held old new → MovingLeaves size plan_of old answer new
        → (IsTrue (honest old.device) → failures new.device ≡ faults_after (failures old.device) (is_failed (Ok answer)))
        → (IsTrue (honest old.device) → MoveGives size old.layout.threshold plan_of (lane_of held old) answer (lane_of held new))
        → IsPlannedFor plan_of answer (begin_step size old.layout.threshold (lane_of held old)).reply
        → StoreMoves size honest failures held plan_of old (Ok answer) new
    over answer writes leaves faults gives planned = record {
      layout = writes.layout;
      honesty = writes.honesty;
      leaves = leaves;
      out_of_memory = tt;
      faults = faults;
      gives = gives;
      lane_stays = λ is. tt;
      planned = λ is. planned;
    }

    pub over_nothing : StoreBegins size honest failures held old (Ok begin.Nothing) new → StoreMoves size honest failures held plan_of old (Ok moved.Nothing) new
    over_nothing h = over moved.Nothing h.writes h.leaves h.faults (λ is. after_nothing size old.layout.threshold plan_of (lane_of held old) (lane_of held new) begin.Nothing (h.gives is) refl) tt

    pub over_busy : StoreBegins size honest failures held old (Ok begin.Busy) new → StoreMoves size honest failures held plan_of old (Ok moved.Busy) new
    over_busy h = over moved.Busy h.writes h.leaves h.faults (λ is. after_busy size old.layout.threshold plan_of (lane_of held old) (lane_of held new) begin.Busy (h.gives is) refl) tt

    pub over_freed : StoreBegins size honest failures held old (Ok begin.Freed) new → StoreMoves size honest failures held plan_of old (Ok moved.Freed) new
    over_freed h = over moved.Freed h.writes h.leaves h.faults (λ is. after_freed size old.layout.threshold plan_of (lane_of held old) (lane_of held new) begin.Freed (h.gives is) refl) tt

    pub over_readmitted : StoreBegins size honest failures held old (Ok begin.Readmitted) new → StoreMoves size honest failures held plan_of old (Ok moved.Readmitted) new
    over_readmitted h = over moved.Readmitted h.writes h.leaves h.faults (λ is. after_readmitted size old.layout.threshold plan_of (lane_of held old) (lane_of held new) begin.Readmitted (h.gives is) refl) tt

    pub over_dropped : StoreBegins size honest failures held old (Ok begin.Dropped) new → StoreMoves size honest failures held plan_of old (Ok moved.Dropped) new
    over_dropped h = over moved.Dropped h.writes h.leaves h.faults (λ is. after_dropped size old.layout.threshold plan_of (lane_of held old) (lane_of held new) begin.Dropped (h.gives is) refl) tt

    pub over_lost : StoreBegins size honest failures held old (Ok begin.PageLost) new → StoreMoves size honest failures held plan_of old (Ok moved.PageLost) new
    over_lost h = over moved.PageLost h.writes h.leaves h.faults h.gives tt

    -- memory was refused as it began
    pub refused : (r : Result MovedWhole AllocError) (e was : AllocError) → r ≡ Err e → StoreBegins size honest failures held old (Err was) new → StoreMoves size honest failures held plan_of old r new
    refused r e was is h = subst (λ (r : Result MovedWhole AllocError). StoreMoves size honest failures held plan_of old r new) (sym is) (record {
      layout = h.writes.layout;
      honesty = h.writes.honesty;
      leaves = tt;
      out_of_memory = inl h.out_of_memory;
      faults = h.faults;
      gives = λ is. tt;
      lane_stays = λ is. inl (h.lane_stays is);
      planned = λ is. tt;
    })

  module _ (between new : StoreState D) (job : Job) (begun : StoreBegins size honest failures held old (Ok (begin.Job job)) between) (layout : new.layout ≡ between.layout) (honesty : honest new.device ≡ honest between.device) where
    -- memory was refused to the policy, and the move was given up
    pub given_up : (r : Result MovedWhole AllocError) (e : AllocError) → r ≡ Err e → All (λ (f : Flight). f.moving.number ≤ old.moves) old.flights
        → new ≡ record between { flights = without_flight job.number between.flights } → StoreMoves size honest failures held plan_of old r new
    given_up r e is counted up = subst (λ (r : Result MovedWhole AllocError). StoreMoves size honest failures held plan_of old r new) (sym is) (record {
      layout = layout ∙ begun.writes.layout;
      honesty = honesty ∙ begun.writes.honesty;
      leaves = tt;
      out_of_memory = inr (record { job = job; between = between; begun = begun.leaves; rest = up });
      faults = λ is. ap (λ (s : StoreState D). failures s.device) up ∙ begun.faults is;
      gives = λ is. tt;
      lane_stays = λ is. inr (counted_lane size plan_of old between new job begun.leaves counted held (begun.writes.same is) up);
      planned = λ is. tt;
    })

    -- it ended by the policy's plan
    pub ended : (answer : MovedWhole) → failures new.device ≡ faults_after (failures between.device) (is_failed (Ok answer)) → IsLawful job (plan_of job)
        → EndLeaves job.number (plan_of job) between answer new
        → (IsTrue (honest between.device) → EndGives job.number (plan_of job) (lane_of held between) answer (lane_of held new))
        → StoreMoves size honest failures held plan_of old (Ok answer) new
    ended answer faults lawful left gives = record {
      layout = layout ∙ begun.writes.layout;
      honesty = honesty ∙ begun.writes.honesty;
      leaves = ends_leaves size plan_of old between new job begun.leaves answer left;
      out_of_memory = tt;
      faults = λ is. faults ∙ ap (λ (n : ℕ). faults_after n (is_failed (Ok answer))) (begun.faults is);
      gives = λ is.
          after_job size old.layout.threshold plan_of (lane_of held old) (lane_of held between) (begin.Job job) (begun.gives is) job answer (lane_of held new) refl
          (gives (subst (λ (b : Bool). IsTrue b) (sym begun.writes.honesty) is));
      lane_stays = λ is. tt;
      planned = λ is. planned_job plan_of answer job _ (begun.gives is).0 lawful;
    }

-- a move that is committed ends by its plan
pub commits_end : (size : ℕ) (plan : List Choice) (number : ℕ) (rewritten : Rewritten) (old new : LaneState) → Commits size plan number rewritten old new → new ≡ ended_by plan rewritten (flight_of number old.flights) old
commits_end size plan number rewritten old new h = h.ended ∙ sym (ap (λ (o : Option Flight). ended_by plan rewritten o old) h.flies)
