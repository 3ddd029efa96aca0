-- The laws of whole moves, and of lanes that were just opened.
use Rattle.std.proofs.Common.{◌≡◌, ℕ, List, [], Option, Some, None, All, Contains, inl, inr, refl, sym, subst, ◌∙◌, arith, ◌∷◌, ◌++◌, ◌+◌}
use Rattle.std.specs.Prelude.{IfSome, IsSomeAnd, map}
use Rattle.std.proofs.lemmas.List.Elements.{All-nil, All-weaker}
use Rattle.record_pages.specs.Recs.{Rec}
use Rattle.policy_laws.specs.declared.choice.Choice.{Choice}
use Rattle.policy_laws.specs.declared.job.Job.{Job}
use Rattle.policy_laws.specs.Laws.{IsLawful}
use Rattle.admission.specs.declared.judgement.Judgement.{Judgement}
use Rattle.admission.specs.declared.judgement.Judgement.TheVariants as judgement
use Rattle.memory_cache.specs.declared.pair.Pair.{Pair}
use Rattle.klog_index.specs.declared.entry.Entry.{Entry}
use Rattle.klog.specs.declared.oldest.Oldest.{Oldest}
use Rattle.klog.specs.declared.oldest.Oldest.TheVariants as oldest
use Rattle.klog.specs.declared.readmitted.Readmitted.{Readmitted}
use Rattle.klog.specs.declared.readmitted.Readmitted.TheVariants as readmitted
use Rattle.klog.specs.Log.{shape_of}
use Rattle.klog.specs.Shown.{place_in}
use Rattle.kset.specs.declared.rewritten.Rewritten.{Rewritten}
use Rattle.kset.specs.declared.rewritten.Rewritten.TheVariants as rewritten
use Rattle.kset.specs.Sets.{opening_sets}
use Rattle.kset.specs.Shown.{visible_in}
use Rattle.kset.specs.Laws.{IsKeyOf}
use Rattle.kset.proofs.public_laws.ShownLaws.{shown-opening}
use Rattle.mover.specs.Flight.{Flight, IsFlightOf, AreOfSet, flight_of, just_begun}
use Rattle.mover.specs.Job.{job_of}
use Rattle.mover.specs.Lane.{LaneState}
use Rattle.mover.specs.Get.{Step}
use Rattle.mover.specs.Visible.{pair_of, IsShown}
use Rattle.mover.specs.Begin.{began_by, readmit_step, judged, entry_step, oldest_step, begin_step, moving_of}
use Rattle.mover.specs.Commit.{IsFitting, committed}
use Rattle.mover.specs.Whole.{ended_by, end_step, whole_step, MoveGives}
use Rattle.mover.specs.declared.begin.Begin.{Begin}
use Rattle.mover.specs.declared.begin.Begin.TheVariants as begin
use Rattle.mover.specs.declared.moved_whole.MovedWhole.{MovedWhole}
use Rattle.mover.specs.declared.moved_whole.MovedWhole.TheVariants as moved
use Rattle.mover.specs.Laws.{AreMarked, AreCounted, IsInOrder, opening_lane_with, StepsInOrder, IsPlanned, IsPlannedFor, WholeMoveShows, OpeningShowsNothing, StoresAreInOrder}
use Rattle.mover.proofs.public_laws.FlightLists.{held_found, found_last, fresh_number}
use Rattle.mover.proofs.public_laws.Showing.{no_more, then}
use Rattle.mover.proofs.MovingShows.{nothing, begins_by, begin_shows, committed_shows}
use Rattle.mover.proofs.MoveKept.{begin_step_kept, committed_kept}
use Rattle.mover.proofs.public_laws.StepLaws.{both, begin_law}

-- if there is a job it is that of the move in flight with its number
abbrev HasJob : ℕ → Step Begin → Type 0
HasJob size step = (job : Job) → step.reply ≡ begin.Job job → IsSomeAnd (flight_of job.number step.lane.flights) (λ f. job ≡ job_of size f.moving)

module _ (size least : ℕ) (lane : LaneState) (counted : AreCounted lane) where
  entry_job : (e : Entry) (j : Judgement) → HasJob size (entry_step size lane e j)
  entry_job e judgement.Move job is =
      let f : Flight = just_begun lane.log.shape (moving_of lane e.set) in
      let found : flight_of (lane.moves + 1) (lane.flights ++ f ∷ []) ≡ Some f = found_last lane.flights f (fresh_number lane.moves lane.flights counted) in
      let its : job_of size (moving_of lane e.set) ≡ job = cc in
      subst (λ (j : Job). IsSomeAnd (flight_of j.number (lane.flights ++ f ∷ [])) (λ g. j ≡ job_of size g.moving)) its
      (subst (λ (o : Option Flight). IsSomeAnd o (λ g. job_of size (moving_of lane e.set) ≡ job_of size g.moving)) (sym found) refl)
  entry_job e judgement.Drop job is = absurd cc
  entry_job e judgement.Readmit job is = absurd (none (readmit_step size e lane).reply is)
    where
      none : (r : Readmitted) → began_by r ≡ begin.Job job → ⊥
      none readmitted.Readmitted is = cc
      none readmitted.Dropped is = cc
      none readmitted.Fault is = cc
      none readmitted.Damaged is = cc

  oldest_job : (o : Oldest) → HasJob size (oldest_step size least lane o)
  oldest_job oldest.NoSegment job is = absurd cc
  oldest_job oldest.Empty job is = absurd cc
  oldest_job oldest.Passed job is = absurd cc
  oldest_job (oldest.First e) job is = entry_job e (judged least lane e) job is

  -- so it is if a move begins
  begin_job : HasJob size (begin_step size least lane)
  begin_job = begins_by size least lane (HasJob size) (λ job is. absurd cc) (λ job is. absurd cc) oldest_job

-- one step after another
after : (old mid new : LaneState) → StepsInOrder None None old mid → StepsInOrder None None mid new → StepsInOrder None None old new
after old mid new first next = record { shows = then old mid new first.shows next.shows; order = next.order; shape = next.shape ∙ first.shape }

module _ (size : ℕ) (plan_of : Job → List Choice) (ended : Rewritten) (mid : LaneState) (was : IsInOrder mid) where
  -- a step that changes nothing
  same : StepsInOrder None None mid mid
  same = record { shows = no_more mid mid (λ p here. here); order = was; shape = refl }

  -- the end of a move by a plan that fits
  end_shows : (plan : List Choice) (number : ℕ) (o : Option Flight) → flight_of number mid.flights ≡ o → IfSome o (λ f. IsFitting (job_of size f.moving) plan) → StepsInOrder None None mid (ended_by plan ended o mid)
  end_shows plan number None flying fitting = same
  end_shows plan number (Some f) flying fitting =
      let flies : Contains mid.flights f = held_found number mid.flights f flying in
      both None None mid (committed f plan ended mid) (no_more mid (committed f plan ended mid) (committed_shows size f plan ended mid flies fitting)) (committed_kept size f plan ended mid was flies fitting)

  -- what a lawful plan is for its job it is for the job of the move in flight
  fits : (job : Job) (o : Option Flight) → IsSomeAnd o (λ f. job ≡ job_of size f.moving) → IsLawful job (plan_of job) → IfSome o (λ f. IsFitting (job_of size f.moving) (plan_of job))
  fits job None its lawful = tt
  fits job (Some f) its lawful =
      subst (λ (j : Job). IsFitting j (plan_of job)) its (record { in_range = lawful.in_range; distinct = lawful.distinct; within = lawful.within; few = lawful.few })

  -- the end of a move that began so
  ended_shows : (b : Begin) → ((job : Job) → b ≡ begin.Job job → IsSomeAnd (flight_of job.number mid.flights) (λ f. job ≡ job_of size f.moving)) → IsPlanned plan_of b → StepsInOrder None None mid (end_step plan_of ended b mid).lane
  ended_shows (begin.Job job) its planned =
      end_shows (plan_of job) job.number (flight_of job.number mid.flights) refl (fits job (flight_of job.number mid.flights) (its job refl) planned)
  ended_shows begin.Nothing its planned = same
  ended_shows begin.Busy its planned = same
  ended_shows begin.Freed its planned = same
  ended_shows begin.Readmitted its planned = same
  ended_shows begin.Dropped its planned = same
  ended_shows begin.PageLost its planned = same

pub whole_move_law : WholeMoveShows
whole_move_law size least plan_of old new answer was counted = by_answer answer
  where
    mid : LaneState
    mid = (begin_step size least old).lane

    first : StepsInOrder None None old mid
    first = both None None old mid (no_more old mid (begin_shows size least old was.placed.log was.placed.sets)) (begin_step_kept size least old was)

    so : (ended : Rewritten) → IsPlanned plan_of (begin_step size least old).reply → new ≡ (whole_step size least plan_of ended old).lane → StepsInOrder None None old new
    so ended planned is =
        subst (StepsInOrder None None old) (sym is)
        (after old mid (whole_step size least plan_of ended old).lane first (ended_shows size plan_of ended mid first.order (begin_step size least old).reply (begin_job size least old counted) planned))

    -- a move that ended by no plan had no job
    unplanned : (answer : MovedWhole) (b : Begin) → answer ≡ (end_step plan_of rewritten.Written b mid).reply → (answer ≡ moved.Written → ⊥) → IsPlanned plan_of b
    unplanned answer (begin.Job job) is other = absurd (other is)
    unplanned answer begin.Nothing is other = tt
    unplanned answer begin.Busy is other = tt
    unplanned answer begin.Freed is other = tt
    unplanned answer begin.Readmitted is other = tt
    unplanned answer begin.Dropped is other = tt
    unplanned answer begin.PageLost is other = tt

    by_answer : (answer : MovedWhole) → IsPlannedFor plan_of answer (begin_step size least old).reply → MoveGives size least plan_of old answer new → StepsInOrder None None old new
    by_answer moved.PageLost planned gives = begin_law size least old new begin.PageLost was gives
    by_answer moved.Forgotten planned gives = so rewritten.Forgotten planned gives.1
    by_answer moved.Written planned gives = so rewritten.Written planned gives.1
    by_answer moved.Nothing planned gives = so rewritten.Written (unplanned moved.Nothing (begin_step size least old).reply gives.0 (λ is. cc)) gives.1
    by_answer moved.Busy planned gives = so rewritten.Written (unplanned moved.Busy (begin_step size least old).reply gives.0 (λ is. cc)) gives.1
    by_answer moved.Freed planned gives = so rewritten.Written (unplanned moved.Freed (begin_step size least old).reply gives.0 (λ is. cc)) gives.1
    by_answer moved.Readmitted planned gives = so rewritten.Written (unplanned moved.Readmitted (begin_step size least old).reply gives.0 (λ is. cc)) gives.1
    by_answer moved.Dropped planned gives = so rewritten.Written (unplanned moved.Dropped (begin_step size least old).reply gives.0 (λ is. cc)) gives.1

-- no set shows anything at first
sets_empty : (held : ℕ → Option (List ℕ)) (count strikes set : ℕ) → visible_in held (opening_sets count strikes) set ≡ []
sets_empty held count strikes set = shown-opening held (opening_sets count strikes) count set refl

pub opening_law : OpeningShowsNothing
opening_law strikes pages layout = (
  record {
    placed = record {
      log = All-nil (λ (x : Entry × Rec). ((place_in (shape_of layout) x.1.key).set ≡ x.0.set) × ((place_in (shape_of layout) x.1.key).tag ≡ x.0.tag));
      sets = λ set.
          subst (λ (xs : List (ℕ × Rec)). All (λ (x : ℕ × Rec). IsKeyOf layout.lanes layout.sets set x.1.key) xs) (sym (sets_empty pages layout.sets strikes set))
          (All-nil (λ (x : ℕ × Rec). IsKeyOf layout.lanes layout.sets set x.1.key));
      flight = All-nil (λ (f : Flight). AreOfSet (shape_of layout) f.moving);
    };
    marked = All-nil (AreMarked (shape_of layout));
  },
  none,
)
  where
    none : (p : Pair) → ¬ IsShown (opening_lane_with strikes layout pages) p
    none p (inl (inl memory)) = let lt = memory.1 in omega (arith, lt)
    none p (inl (inr (inl live))) = nothing (λ (x : Entry × Rec). pair_of x.1) p live
    none p (inl (inr (inr visible))) =
        nothing (λ (x : ℕ × Rec). pair_of x.1) p
        (subst (λ (xs : List (ℕ × Rec)). Contains (map (λ (x : ℕ × Rec). pair_of x.1) xs) p) (sets_empty pages layout.sets strikes (place_in (shape_of layout) p.key).set) visible)
    none p (inr flying) = let lt = flying.flies.1 in omega (arith, lt)

pub stores_law : StoresAreInOrder
stores_law lane placed flying = record {
  placed = placed;
  marked = All-weaker (IsFlightOf lane.log.shape lane.moves) (AreMarked lane.log.shape) (λ f is. is.marked) lane.flights flying.each;
}
