-- How a move ends, by how it began.
use Rattle.mover.specs.declared.moving.Moving.{Moving}
use Rattle.mover.proofs.public_laws.FlightLists.{fresh_number, found_last, without_last}
use Rattle.std.proofs.Common.{◌≡◌, ◌<◌, ◌+◌, List, Option, refl, sym, subst, ◌∙◌, ap, ℕ, ◌≢◌, ◌≤◌, ◌∷◌, ◌++◌, [], length, Some}
use Rattle.std.specs.Prelude.{IsSomeAnd, All}
use Rattle.std.proofs.lemmas.Bool.{lt-ltb}
use Rattle.klog_index.specs.declared.entry.Entry.{Entry}
use Rattle.klog.specs.declared.oldest.Oldest.TheVariants as oldest
use Rattle.klog.specs.Shown.{live_on}
use Rattle.kset.specs.Shown.{visible_in}
use Rattle.policy_laws.specs.Laws.{IsLawful}
use Rattle.mover.specs.Store.{StoreState, most_moves}
use Rattle.mover.specs.Oldest.{oldest_in}
use Rattle.mover.specs.Leaving.{EntryLeaves, BeginLeaves}
use Rattle.mover.specs.Calls.{MovingLeaves}
use Rattle.mover.specs.Laws.{IsPlanned, IsPlannedFor}
use Rattle.mover.proofs.public_laws.Beginning.{begun_job}
use Rattle.mover.proofs.Gathering.{begins_flight}
use Rattle.policy_laws.specs.declared.job.Job.{Job}
use Rattle.policy_laws.specs.declared.choice.Choice.{Choice}
use Rattle.kset.specs.declared.rewritten.Rewritten.{Rewritten}
use Rattle.kset.specs.declared.rewritten.Rewritten.TheVariants as rewritten
use Rattle.mover.specs.Lane.{LaneState, lane_of}
use Rattle.mover.specs.Put.{IsStep}
use Rattle.mover.specs.Flight.{Flight, most_flights, sets_in_flight, flight_of, without_flight, just_begun}
use Rattle.mover.specs.Begin.{judged, judged_in, entry_step, EntryBegins, begin_step, BeginGives, IsJustBegun, lane_counted}
use Rattle.mover.specs.Commit.{IsFittingIn, Lands, CommitAnswers, CommitLeaves, landed, committed, committed_by, Commits, CommitGives}
use Rattle.mover.specs.declared.committed.Committed.{Committed}
use Rattle.mover.specs.Whole.{end_step, ended_by, whole_step, MoveGives, EndGives, EndLeaves, moved_by}
use Rattle.mover.specs.declared.begin.Begin.{Begin}
use Rattle.mover.specs.declared.begin.Begin.TheVariants as begin
use Rattle.mover.specs.declared.moved_whole.MovedWhole.{MovedWhole}
use Rattle.mover.specs.declared.moved_whole.MovedWhole.TheVariants as moved

-- a move that landed and is in flight no more is committed
pub landed_committed : (f : Flight) (plan : List Choice) (answer : Rewritten) (lane : LaneState) → landed f plan answer (record lane { flights = without_flight f.moving.number lane.flights }) ≡ committed f plan answer lane
landed_committed f plan rewritten.Written lane = refl
landed_committed f plan rewritten.Forgotten lane = refl

-- what is answered of it, and what it leaves
pub commit_answers : (size : ℕ) (plan : List Choice) (number : ℕ) (flights : List Flight) (ended : Rewritten) (answer : Committed) → answer ≡ committed_by ended → IsFittingIn size plan number flights → CommitAnswers size plan number flights answer
commit_answers size plan number flights ended answer is fits = subst (CommitAnswers size plan number flights) (sym is) (step ended)
  where
    step : (ended : Rewritten) → CommitAnswers size plan number flights (committed_by ended)
    step rewritten.Written = fits
    step rewritten.Forgotten = fits

pub commit_leaves : {D : Type 0} (plan : List Choice) (number : ℕ) (old new : StoreState D) (ended : Rewritten) (answer : Committed) → answer ≡ committed_by ended → Lands plan number ended old new → CommitLeaves plan number old answer new
commit_leaves plan number old new ended answer is lands = subst (λ a. CommitLeaves plan number old a new) (sym is) (step ended lands)
  where
    step : (ended : Rewritten) → Lands plan number ended old new → CommitLeaves plan number old (committed_by ended) new
    step rewritten.Written it = it
    step rewritten.Forgotten it = it

-- a move that landed ends so
pub commit_gives : (size : ℕ) (plan : List Choice) (number : ℕ) (old new : LaneState) (ended : Rewritten) (answer : Committed) → answer ≡ committed_by ended → Commits size plan number ended old new → CommitGives size plan number old answer new
commit_gives size plan number old new ended answer is commits = subst (λ a. CommitGives size plan number old a new) (sym is) (step ended commits)
  where
    step : (ended : Rewritten) → Commits size plan number ended old new → CommitGives size plan number old (committed_by ended) new
    step rewritten.Written it = it
    step rewritten.Forgotten it = it

-- how a move begins with the first entry of the oldest segment is how it begins
pub first_begins : (size least : ℕ) (old new : LaneState) (e : Entry) (b : Begin) → length old.flights < most_flights → old.moves < most_moves → oldest_in (sets_in_flight old.flights) old.log ≡ oldest.First e → EntryBegins size least e old b new → BeginGives size least old b new
first_begins size least old new e b free room first = step b
  where
    same : begin_step size least old ≡ entry_step size old e (judged least old e)
    same = rw (lt-ltb (length old.flights) most_flights free, lt-ltb old.moves most_moves room, first) refl

    stepped : (b : Begin) → IsStep (entry_step size old e (judged least old e)) b new → IsStep (begin_step size least old) b new
    stepped b = subst (λ s. IsStep s b new) (sym same)

    step : (b : Begin) → EntryBegins size least e old b new → BeginGives size least old b new
    step begin.PageLost gives = record { free = free; few = room; first = e; is_first = first; lost = gives }
    step begin.Nothing gives = stepped begin.Nothing gives
    step begin.Busy gives = stepped begin.Busy gives
    step begin.Freed gives = stepped begin.Freed gives
    step begin.Readmitted gives = stepped begin.Readmitted gives
    step begin.Dropped gives = stepped begin.Dropped gives
    step (begin.Job job) gives = stepped (begin.Job job) gives

-- ---- what a whole move leaves of a store, on any device

-- what a beginning with that entry leaves is what a beginning does
pub first_leaves : {D : Type 0} (size : ℕ) (old new : StoreState D) (e : Entry) (b : Begin) → length old.flights < most_flights → old.moves < most_moves → oldest_in (sets_in_flight old.flights) old.log ≡ oldest.First e →
    EntryLeaves size e (judged_in old.layout.threshold old.log e) old b new → BeginLeaves size old b new
first_leaves size old new e b free room first leaves = rw (lt-ltb (length old.flights) most_flights free, lt-ltb old.moves most_moves room, first) leaves

module _ {D : Type 0} (size : ℕ) (plan_of : Job → List Choice) (old between new : StoreState D) (job : Job) (begun : BeginLeaves size old (begin.Job job) between) where
  -- a move that had a job ended so
  pub ends_leaves : (answer : MovedWhole) → EndLeaves job.number (plan_of job) between answer new → MovingLeaves size plan_of old answer new
  ends_leaves moved.Written left = record { job = job; between = between; begun = begun; landed = left }
  ends_leaves moved.Forgotten left = record { job = job; between = between; begun = begun; landed = left }
  ends_leaves moved.Nothing left = absurd left
  ends_leaves moved.Busy left = absurd left
  ends_leaves moved.Freed left = absurd left
  ends_leaves moved.Readmitted left = absurd left
  ends_leaves moved.Dropped left = absurd left
  ends_leaves moved.PageLost left = absurd left

  -- the move of the job is the last in flight, and found by its number
  module _ (counted : All (λ (f : Flight). f.moving.number ≤ old.moves) old.flights) where
    apart : (moving : Moving) → moving.number ≡ old.moves + 1 → All (λ (f : Flight). f.moving.number ≢ moving.number) old.flights
    apart moving is = subst (λ n. All (λ (f : Flight). f.moving.number ≢ n) old.flights) (sym is) (fresh_number old.moves old.flights counted)

    pub job_flies : IsSomeAnd (flight_of job.number between.flights) (IsJustBegun size job)
    job_flies =
        let flies = (begun_job size old job between begun).1 in
        let f : Flight = just_begun old.log.shape flies.moving in
        let found : flight_of f.moving.number (old.flights ++ f ∷ []) ≡ Some f = found_last old.flights f (apart flies.moving flies.number_is) in
        let numbers : job.number ≡ f.moving.number = ap (λ (j : Job). j.number) flies.job_is in
        begins_flight size old.log.shape flies.moving job (flight_of job.number between.flights) ((λ i. flight_of (numbers i) (flies.rest i).flights) ∙ found) flies.job_is

    -- if it was given up, one move more is counted, and that is all
    pub counted_lane : (held : D → ℕ → Option (List ℕ)) → held between.device ≡ held old.device → new ≡ record between { flights = without_flight job.number between.flights } → lane_of held new ≡ lane_counted (lane_of held old)
    counted_lane held same up =
        let flies = (begun_job size old job between begun).1 in
        let f : Flight = just_begun old.log.shape flies.moving in
        let numbers : job.number ≡ f.moving.number = ap (λ (j : Job). j.number) flies.job_is in
        let left : without_flight job.number (old.flights ++ f ∷ []) ≡ old.flights = ap (λ n. without_flight n (old.flights ++ f ∷ [])) numbers ∙ without_last old.flights f (apart flies.moving flies.number_is) in
        ap (lane_of held) (up ∙ ap (λ (s : StoreState D). record s { flights = without_flight job.number s.flights }) flies.rest) ∙ (λ i. record {
          memory = old.memory;
          log = old.log;
          live = live_on (same i) old.log;
          sets = old.sets;
          visible = visible_in (same i) old.sets;
          flights = left i;
          moves = old.moves + 1;
        })

-- the plan of a job was lawful
pub planned_job : (plan_of : Job → List Choice) (answer : MovedWhole) (job : Job) (reply : Begin) → begin.Job job ≡ reply → IsLawful job (plan_of job) → IsPlannedFor plan_of answer reply
planned_job plan_of answer job reply is lawful = by_answer answer
  where
    planned : IsPlanned plan_of reply
    planned = subst (IsPlanned plan_of) is lawful

    by_answer : (answer : MovedWhole) → IsPlannedFor plan_of answer reply
    by_answer moved.Written = planned
    by_answer moved.Forgotten = planned
    by_answer moved.Nothing = tt
    by_answer moved.Busy = tt
    by_answer moved.Freed = tt
    by_answer moved.Readmitted = tt
    by_answer moved.Dropped = tt
    by_answer moved.PageLost = tt

module _ (size least : ℕ) (plan_of : Job → List Choice) (old new : LaneState) (b : Begin) (gives : BeginGives size least old b new) where
  -- a move whose beginning this reply tells ends so
  after : (reply : Begin) (answer : MovedWhole) (ended : Rewritten) (last : LaneState) → reply ≡ (begin_step size least old).reply → IsStep (end_step plan_of ended reply (begin_step size least old).lane) answer last →
      IsStep (whole_step size least plan_of ended old) answer last
  after reply answer ended last is = subst (λ r. IsStep (end_step plan_of ended r (begin_step size least old).lane) answer last) is

  pub after_nothing : b ≡ begin.Nothing → MoveGives size least plan_of old moved.Nothing new
  after_nothing is = let it = subst (λ x. BeginGives size least old x new) is gives in after begin.Nothing moved.Nothing rewritten.Written new it.0 (refl, it.1)

  pub after_busy : b ≡ begin.Busy → MoveGives size least plan_of old moved.Busy new
  after_busy is = let it = subst (λ x. BeginGives size least old x new) is gives in after begin.Busy moved.Busy rewritten.Written new it.0 (refl, it.1)

  pub after_freed : b ≡ begin.Freed → MoveGives size least plan_of old moved.Freed new
  after_freed is = let it = subst (λ x. BeginGives size least old x new) is gives in after begin.Freed moved.Freed rewritten.Written new it.0 (refl, it.1)

  pub after_readmitted : b ≡ begin.Readmitted → MoveGives size least plan_of old moved.Readmitted new
  after_readmitted is = let it = subst (λ x. BeginGives size least old x new) is gives in after begin.Readmitted moved.Readmitted rewritten.Written new it.0 (refl, it.1)

  pub after_dropped : b ≡ begin.Dropped → MoveGives size least plan_of old moved.Dropped new
  after_dropped is = let it = subst (λ x. BeginGives size least old x new) is gives in after begin.Dropped moved.Dropped rewritten.Written new it.0 (refl, it.1)

  -- a move that has a job ends by the policy's plan
  pub after_job : (job : Job) (answer : MovedWhole) (last : LaneState) → b ≡ begin.Job job → EndGives job.number (plan_of job) new answer last → MoveGives size least plan_of old answer last
  after_job job answer last is = let it = subst (λ x. BeginGives size least old x new) is gives in by_answer it answer
    where
      so : (ended : Rewritten) → IsStep (begin_step size least old) (begin.Job job) new → last ≡ ended_by (plan_of job) ended (flight_of job.number new.flights) new → IsStep (whole_step size least plan_of ended old) (moved_by ended) last
      so ended it left = after (begin.Job job) (moved_by ended) ended last it.0 (refl, left ∙ ap (λ (l : LaneState). ended_by (plan_of job) ended (flight_of job.number l.flights) l) it.1)

      by_answer : IsStep (begin_step size least old) (begin.Job job) new → (answer : MovedWhole) → EndGives job.number (plan_of job) new answer last → MoveGives size least plan_of old answer last
      by_answer it moved.Written left = so rewritten.Written it left
      by_answer it moved.Forgotten left = so rewritten.Forgotten it left
      by_answer it moved.Nothing left = absurd left
      by_answer it moved.Busy left = absurd left
      by_answer it moved.Freed left = absurd left
      by_answer it moved.Readmitted left = absurd left
      by_answer it moved.Dropped left = absurd left
      by_answer it moved.PageLost left = absurd left
