-- A whole move.
use Rattle.std.specs.Prelude.{◌≡◌, ℕ, List, Option, Some, None, Bool, true, false, Result, Ok}
use Rattle.std.specs.declared.alloc.AllocError.{AllocError}
use Rattle.policy_laws.specs.declared.choice.Choice.{Choice}
use Rattle.policy_laws.specs.declared.job.Job.{Job}
use Rattle.kset.specs.declared.rewritten.Rewritten.{Rewritten}
use Rattle.kset.specs.declared.rewritten.Rewritten.TheVariants as rewritten
use Rattle.mover.specs.Lane.{LaneState}
use Rattle.mover.specs.Get.{Step}
use Rattle.mover.specs.Put.{IsStep}
use Rattle.mover.specs.Begin.{begin_step, BeginGives}
use Rattle.mover.specs.Flight.{Flight, flight_of}
use Rattle.mover.specs.Store.{StoreState}
use Rattle.mover.specs.Commit.{committed, Lands}
use Rattle.mover.specs.declared.begin.Begin.{Begin}
use Rattle.mover.specs.declared.begin.Begin.TheVariants as begin
use Rattle.mover.specs.declared.moved_whole.MovedWhole.{MovedWhole}
use Rattle.mover.specs.declared.moved_whole.MovedWhole.TheVariants as moved

-- what a move did that ended by a rewriting
abbrev pub moved_by : Rewritten → MovedWhole
moved_by rewritten.Written = moved.Written
moved_by rewritten.Forgotten = moved.Forgotten

-- the move with the job's number ends by a plan
abbrev pub ended_by : List Choice → Rewritten → Option Flight → LaneState → LaneState
ended_by plan ended None lane = lane
ended_by plan ended (Some f) lane = committed f plan ended lane

-- a move that began so ends by the policy's plan, if there is a job; otherwise it is over
abbrev pub end_step : (Job → List Choice) → Rewritten → Begin → LaneState → Step MovedWhole
end_step plan_of ended (begin.Job job) lane = record { reply = moved_by ended; lane = ended_by (plan_of job) ended (flight_of job.number lane.flights) lane }
end_step plan_of ended begin.Nothing lane = record { reply = moved.Nothing; lane = lane }
end_step plan_of ended begin.Busy lane = record { reply = moved.Busy; lane = lane }
end_step plan_of ended begin.Freed lane = record { reply = moved.Freed; lane = lane }
end_step plan_of ended begin.Readmitted lane = record { reply = moved.Readmitted; lane = lane }
end_step plan_of ended begin.Dropped lane = record { reply = moved.Dropped; lane = lane }
end_step plan_of ended begin.PageLost lane = record { reply = moved.PageLost; lane = lane }

-- a whole move if the device reads each page, and writes that of the set or does not
abbrev pub whole_step : ℕ → ℕ → (Job → List Choice) → Rewritten → LaneState → Step MovedWhole
whole_step size least plan_of ended lane =
    end_step plan_of ended (begin_step size least lane).reply (begin_step size least lane).lane

-- a whole move if no call of the device fails
abbrev pub move_step : ℕ → ℕ → (Job → List Choice) → LaneState → Step MovedWhole
move_step size least plan_of lane = whole_step size least plan_of rewritten.Written lane

-- what a whole move answers and does: its step; or a page is lost as it begins; or the set's page is not written
abbrev pub MoveGives : ℕ → ℕ → (Job → List Choice) → LaneState → MovedWhole → LaneState → Type 0
MoveGives size least plan_of old moved.PageLost new = BeginGives size least old begin.PageLost new
MoveGives size least plan_of old moved.Forgotten new =
    IsStep (whole_step size least plan_of rewritten.Forgotten old) moved.Forgotten new
MoveGives size least plan_of old answer new = IsStep (move_step size least plan_of old) answer new

-- the move with this number ends by a plan, and that is answered
abbrev pub EndGives : ℕ → List Choice → LaneState → MovedWhole → LaneState → Type 0
EndGives number plan old moved.Written new = new ≡ ended_by plan rewritten.Written (flight_of number old.flights) old
EndGives number plan old moved.Forgotten new = new ≡ ended_by plan rewritten.Forgotten (flight_of number old.flights) old
EndGives number plan old _ new = ⊥

-- the same of a store
abbrev pub EndLeaves : {D : Type 0} → ℕ → List Choice → StoreState D → MovedWhole → StoreState D → Type 0
EndLeaves number plan old moved.Written new = Lands plan number rewritten.Written old new
EndLeaves number plan old moved.Forgotten new = Lands plan number rewritten.Forgotten old new
EndLeaves number plan old _ new = ⊥

-- the device failed: a page was not read, or not written
abbrev pub is_failed : Result MovedWhole AllocError → Bool
is_failed (Ok moved.PageLost) = true
is_failed (Ok moved.Forgotten) = true
is_failed _ = false
