-- How a move ends.
use Rattle.std.specs.Prelude.{◌≡◌, ◌≢◌, ◌<◌, ◌≤◌, ℕ, List, [], length, map, sum_by, slice_index_or, All, AllPairs, Some, Bool, true, false}
use Rattle.std.specs.List.{enumerate_from}
use Rattle.record_pages.specs.Expiry.{lasting}
use Rattle.record_pages.specs.Recs.{Rec, rec}
use Rattle.record_pages.specs.Sizes.{max_set_records}
use Rattle.policy_laws.specs.declared.choice.Choice.{Choice}
use Rattle.policy_laws.specs.declared.job.Job.{Job}
use Rattle.policy_laws.specs.Laws.{size_at}
use Rattle.kset.specs.declared.rewritten.Rewritten.{Rewritten}
use Rattle.kset.specs.declared.rewritten.Rewritten.TheVariants as rewritten
use Rattle.klog.specs.Moves.{dropped}
use Rattle.kset.specs.Rewrite.{after_rewrite}
use Rattle.kset.specs.Sets.{written, tried, forgotten}
use Rattle.mover.specs.Store.{StoreState}
use Rattle.mover.specs.Lane.{LaneState}
use Rattle.kset.specs.After.{with_set}
use Rattle.mover.specs.Begin.{lane_without}
use Rattle.mover.specs.Flight.{Flight, flight_of, without_flight, records_of, unstruck, IsInFlight}
use Rattle.mover.specs.Job.{job_of}
use Rattle.mover.specs.declared.moving.Moving.{Moving}
use Rattle.mover.specs.declared.committed.Committed.{Committed}
use Rattle.mover.specs.declared.committed.Committed.TheVariants as answers
use Rattle.mover.specs.declared.aborted.Aborted.{Aborted}
use Rattle.mover.specs.declared.aborted.Aborted.TheVariants as aborted

-- the record of a choice, with the prediction that the plan gives it
abbrev pub planned : List Rec → Choice → Rec
planned rs choice = rec (slice_index_or rs choice.item (rec [] (lasting []) 0)).key (slice_index_or rs choice.item (rec [] (lasting []) 0)).value choice.prediction

-- the records of a plan, in its order
abbrev pub planned_of : Moving → List Choice → List Rec
planned_of moving plan = map (planned (records_of moving)) plan

-- the page of a set is written with these records
abbrev pub lane_written : ℕ → List Rec → LaneState → LaneState
lane_written set rs lane = record lane { sets = written lane.sets set rs; visible = with_set lane.visible set (enumerate_from 0 rs) }

-- a write of the page of a set failed, and the set is forgotten
abbrev pub lane_unwritten : ℕ → LaneState → LaneState
lane_unwritten set lane = record lane { sets = forgotten (tried lane.sets) set; visible = with_set lane.visible set [] }

-- the lane after a rewriting of a set with these records
abbrev pub lane_rewritten : ℕ → List Rec → Rewritten → LaneState → LaneState
lane_rewritten set rs rewritten.Written lane = lane_written set rs lane
lane_rewritten set rs rewritten.Forgotten lane = lane_unwritten set lane

-- a set is written anew with the records of the plan's choices that were not struck, or forgotten; and the taken records die
abbrev pub landed : Flight → List Choice → Rewritten → LaneState → LaneState
landed f plan rewritten lane =
    lane_without f.moving.set f.moving.taken (lane_rewritten f.moving.set (planned_of f.moving (unstruck f plan)) rewritten lane)

-- the lane after a move, which is no more in flight
abbrev pub committed : Flight → List Choice → Rewritten → LaneState → LaneState
committed f plan rewritten lane =
    record (landed f plan rewritten lane) { flights = without_flight f.moving.number lane.flights }

-- a move landed in a store, with this device
abbrev pub landed_in : {D : Type 0} → Flight → List Choice → Rewritten → StoreState D → D → StoreState D
landed_in f plan rewritten s device = record s {
  device = device;
  log = dropped s.log f.moving.set f.moving.taken;
  sets = after_rewrite s.sets f.moving.set (planned_of f.moving (unstruck f plan)) rewritten;
}

-- a store after a move, which is no more in flight
abbrev pub committed_in : {D : Type 0} → Flight → List Choice → Rewritten → StoreState D → D → StoreState D
committed_in f plan rewritten s device =
    record (landed_in f plan rewritten s device) { flights = without_flight f.moving.number s.flights }

-- a plan names items of its job, none twice, that fit on a set page, struck ones included
pub record IsFitting (job : Job) (plan : List Choice) : Type 0 where
  pub in_range : All (λ choice. choice.item < length job.items) plan
  pub distinct : AllPairs (λ a b. a.item ≢ b.item) plan
  pub within : sum_by (λ choice. size_at job.items choice.item) plan ≤ job.room
  pub few : length plan ≤ max_set_records

-- a move with this number is in flight, and the plan fits
pub record IsFittingIn (size : ℕ) (plan : List Choice) (number : ℕ) (flights : List Flight) : Type 0 where
  pub its : Flight
  pub flies : flight_of number flights ≡ Some its
  pub fits : IsFitting (job_of size its.moving) plan

-- a move with this number is in flight, and the plan does not fit
pub record IsBadIn (size : ℕ) (plan : List Choice) (number : ℕ) (flights : List Flight) : Type 0 where
  pub its : Flight
  pub flies : flight_of number flights ≡ Some its
  pub misfits : ¬ IsFitting (job_of size its.moving) plan

-- when each answer of a commit comes
abbrev pub CommitAnswers : ℕ → List Choice → ℕ → List Flight → Committed → Type 0
CommitAnswers size plan number flights answers.Written = IsFittingIn size plan number flights
CommitAnswers size plan number flights answers.Forgotten = IsFittingIn size plan number flights
CommitAnswers size plan number flights answers.StalePlan = ¬ IsInFlight flights number
CommitAnswers size plan number flights answers.BadPlan = IsBadIn size plan number flights

-- the move with this number landed in a store by a plan, and is no more in flight
pub record Lands {D : Type 0} (plan : List Choice) (number : ℕ) (rewritten : Rewritten) (old new : StoreState D) : Type 0 where
  pub its : Flight
  pub flies : flight_of number old.flights ≡ Some its
  pub left : new ≡ committed_in its plan rewritten old new.device

-- what a commit leaves: each refusal the same store
abbrev pub CommitLeaves : {D : Type 0} → List Choice → ℕ → StoreState D → Committed → StoreState D → Type 0
CommitLeaves plan number old answers.Written new = Lands plan number rewritten.Written old new
CommitLeaves plan number old answers.Forgotten new = Lands plan number rewritten.Forgotten old new
CommitLeaves plan number old answers.StalePlan new = new ≡ old
CommitLeaves plan number old answers.BadPlan new = new ≡ old

-- how a move ended by a rewriting
abbrev pub committed_by : Rewritten → Committed
committed_by rewritten.Written = answers.Written
committed_by rewritten.Forgotten = answers.Forgotten

-- the page was not written
abbrev pub is_unwritten : Committed → Bool
is_unwritten answers.Forgotten = true
is_unwritten _ = false

-- a move with this number is in flight, the plan fits, and the move ends by it
pub record Commits (size : ℕ) (plan : List Choice) (number : ℕ) (rewritten : Rewritten) (old new : LaneState) : Type 0 where
  pub its : Flight
  pub flies : flight_of number old.flights ≡ Some its
  pub fits : IsFitting (job_of size its.moving) plan
  pub ended : new ≡ committed its plan rewritten old

-- when each answer of a commit comes, and what it leaves
abbrev pub CommitGives : ℕ → List Choice → ℕ → LaneState → Committed → LaneState → Type 0
CommitGives size plan number old answers.Written new = Commits size plan number rewritten.Written old new
CommitGives size plan number old answers.Forgotten new = Commits size plan number rewritten.Forgotten old new
CommitGives size plan number old answers.StalePlan new = (¬ IsInFlight old.flights number) × (new ≡ old)
CommitGives size plan number old answers.BadPlan new = IsBadIn size plan number old.flights × (new ≡ old)

-- the move with this number is no more in flight
abbrev pub given_up : ℕ → LaneState → LaneState
given_up number lane = record lane { flights = without_flight number lane.flights }

-- when each answer of an abort comes, and what it leaves
abbrev pub AbortGives : ℕ → LaneState → Aborted → LaneState → Type 0
AbortGives number old aborted.Aborted new = IsInFlight old.flights number × (new ≡ given_up number old)
AbortGives number old aborted.StalePlan new = (¬ IsInFlight old.flights number) × (new ≡ old)

-- a store after an abort: the move with this number is no more in flight, or the same store
abbrev pub after_abort : {D : Type 0} → ℕ → Aborted → StoreState D → StoreState D
after_abort number aborted.Aborted s = record s { flights = without_flight number s.flights }
after_abort number aborted.StalePlan s = s
