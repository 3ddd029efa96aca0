-- Laws of a lane's steps: which pairs each shows, and that each record stays if it belongs.
use Rattle.std.specs.Prelude.{◌≡◌, ◌≤◌, ◌*◌, ℕ, List, map, Option, Some, None, All}
use Rattle.record_pages.specs.Recs.{Rec}
use Rattle.record_pages.specs.declared.answer.Answer.{Answer}
use Rattle.record_pages.specs.declared.layout.Layout.{Layout}
use Rattle.record_pages.specs.declared.pushed.Pushed.{Pushed}
use Rattle.policy_laws.specs.declared.choice.Choice.{Choice}
use Rattle.policy_laws.specs.declared.job.Job.{Job}
use Rattle.policy_laws.specs.Laws.{IsLawful}
use Rattle.memory_cache.specs.declared.pair.Pair.{Pair}
use Rattle.klog.specs.declared.flushed.Flushed.{Flushed}
use Rattle.klog.specs.Log.{Shape}
use Rattle.klog.specs.Shown.{place_in}
use Rattle.mover.specs.declared.aborted.Aborted.{Aborted}
use Rattle.mover.specs.declared.begin.Begin.{Begin}
use Rattle.mover.specs.declared.begin.Begin.TheVariants as begin
use Rattle.mover.specs.declared.committed.Committed.{Committed}
use Rattle.mover.specs.declared.mark.Mark.{Mark}
use Rattle.mover.specs.declared.moved_whole.MovedWhole.{MovedWhole}
use Rattle.mover.specs.declared.moved_whole.MovedWhole.TheVariants as moved
use Rattle.mover.specs.Store.{opening_with}
use Rattle.mover.specs.Flight.{Flight, AreFlights, records_of}
use Rattle.mover.specs.Lane.{LaneState, lane_of}
use Rattle.mover.specs.Visible.{IsShown, ShowsFrom, IsPlaced, TellsVisible}
use Rattle.mover.specs.Get.{GetGives}
use Rattle.mover.specs.Put.{put_step, IsStep}
use Rattle.mover.specs.PutBack.{put_back_step}
use Rattle.mover.specs.declared.copy_fate.CopyFate.{CopyFate}
use Rattle.mover.specs.Strike.{removed}
use Rattle.mover.specs.Flush.{LaneFlushes}
use Rattle.mover.specs.Begin.{begin_step, BeginGives}
use Rattle.mover.specs.Commit.{CommitGives, AbortGives}
use Rattle.mover.specs.Whole.{MoveGives}

-- each item of a move is marked by the hash of its key
abbrev pub AreMarked : Shape → Flight → Type 0
AreMarked shape f = map (λ (m : Mark). m.hash) f.marks ≡ map (λ (r : Rec). (place_in shape r.key).hash) (records_of f.moving)

-- a lane is in order: each record lies where its key belongs, and each item in flight is marked by its key's hash
pub record IsInOrder (lane : LaneState) : Type 0 where
  pub placed : IsPlaced lane
  pub marked : All (AreMarked lane.log.shape) lane.flights

-- A step of a lane in order. It leaves the lane in order and its log's shape, and each pair that is shown after it was
-- shown before it and was not struck, or is the pair that was put.
pub record StepsInOrder (struck : Option (List ℕ)) (put : Option Pair) (old new : LaneState) : Type 0 where
  pub shows : ShowsFrom struck put old new
  pub order : IsInOrder new
  pub shape : new.log.shape ≡ old.log.shape

-- the lane of a store that was just opened, with room for this many strikes, over a device that holds these pages
abbrev pub opening_lane_with : ℕ → Layout → (ℕ → Option (List ℕ)) → LaneState
opening_lane_with strikes layout pages = lane_of (λ (held : ℕ → Option (List ℕ)). held) (opening_with strikes layout pages)

-- with room for eight strikes a set
abbrev pub opening_lane : Layout → (ℕ → Option (List ℕ)) → LaneState
opening_lane layout pages = opening_lane_with (8 * layout.sets) layout pages

-- a get shows nothing that was not shown, and a hit is the value of a visible pair that is live at its moment
abbrev pub GetShows : Type 0
GetShows =
    (key : List ℕ) (moment : ℕ) (old new : LaneState) (answer : Answer)
    → IsInOrder old
    → GetGives key moment old answer new
    → StepsInOrder None None old new × TellsVisible key moment old answer

-- a put shows its pair, and nothing else that was not shown
abbrev pub PutShows : Type 0
PutShows =
    (size admit word : ℕ) (p : Pair) (old new : LaneState) (pushed : Pushed)
    → IsInOrder old
    → IsStep (put_step size admit p word old) pushed new
    → StepsInOrder (Some p.key) (Some p) old new

-- a copy that is put back shows nothing that was not shown, but itself
abbrev pub PutBackShows : Type 0
PutBackShows =
    (size : ℕ) (p : Pair) (old new : LaneState) (fate : CopyFate)
    → IsInOrder old
    → IsStep (put_back_step size p old) fate new
    → StepsInOrder None (Some p) old new

-- a removal shows nothing that was not shown, and nothing of its key
abbrev pub RemovalShows : Type 0
RemovalShows =
    (key : List ℕ) (old new : LaneState) → IsInOrder old → new ≡ removed key old → StepsInOrder (Some key) None old new

-- a flush step shows nothing that was not shown, whatever it answers
abbrev pub FlushShows : Type 0
FlushShows =
    (old new : LaneState) (flushed : Flushed) → IsInOrder old → LaneFlushes old flushed new → StepsInOrder None None old new

-- nor does a move that begins, by its step or by a page that is lost
abbrev pub BeginShows : Type 0
BeginShows =
    (size least : ℕ) (old new : LaneState) (begin : Begin)
    → IsInOrder old
    → BeginGives size least old begin new
    → StepsInOrder None None old new

-- nor a commit, of any plan and number
abbrev pub CommitShows : Type 0
CommitShows =
    (size : ℕ) (plan : List Choice) (number : ℕ) (old new : LaneState) (committed : Committed)
    → IsInOrder old
    → CommitGives size plan number old committed new
    → StepsInOrder None None old new

-- nor an abort, of any number
abbrev pub AbortShows : Type 0
AbortShows =
    (number : ℕ) (old new : LaneState) (aborted : Aborted)
    → IsInOrder old
    → AbortGives number old aborted new
    → StepsInOrder None None old new

-- if a move begins with a job, the plan of it is a lawful one
abbrev pub IsPlanned : (Job → List Choice) → Begin → Type 0
IsPlanned plan_of (begin.Job job) = IsLawful job (plan_of job)
IsPlanned plan_of _ = Unit {0}

-- the same if a whole move answers that it ended by a plan
abbrev pub IsPlannedFor : (Job → List Choice) → MovedWhole → Begin → Type 0
IsPlannedFor plan_of moved.Written begun = IsPlanned plan_of begun
IsPlannedFor plan_of moved.Forgotten begun = IsPlanned plan_of begun
IsPlannedFor plan_of moved.Nothing begun = Unit {0}
IsPlannedFor plan_of moved.Busy begun = Unit {0}
IsPlannedFor plan_of moved.Freed begun = Unit {0}
IsPlannedFor plan_of moved.Readmitted begun = Unit {0}
IsPlannedFor plan_of moved.Dropped begun = Unit {0}
IsPlannedFor plan_of moved.PageLost begun = Unit {0}

-- the moves in flight have numbers that were given
abbrev pub AreCounted : LaneState → Type 0
AreCounted lane = All (λ (f : Flight). f.moving.number ≤ lane.moves) lane.flights

-- nor a whole move by a lawful plan
abbrev pub WholeMoveShows : Type 0
WholeMoveShows =
    (size least : ℕ) (plan_of : Job → List Choice) (old new : LaneState) (answer : MovedWhole)
    → IsInOrder old
    → AreCounted old
    → IsPlannedFor plan_of answer (begin_step size least old).reply
    → MoveGives size least plan_of old answer new
    → StepsInOrder None None old new

-- a lane that was just opened is in order and shows nothing, however many strikes there is room for, and whatever the pages of
-- its device hold
abbrev pub OpeningShowsNothing : Type 0
OpeningShowsNothing =
    (strikes : ℕ) (pages : ℕ → Option (List ℕ)) (layout : Layout)
    → IsInOrder (opening_lane_with strikes layout pages) × ((p : Pair) → ¬ IsShown (opening_lane_with strikes layout pages) p)

-- a lane whose records lie where they belong, and whose moves in flight are its own, is in order; so each store's is
abbrev pub StoresAreInOrder : Type 0
StoresAreInOrder = (lane : LaneState) → IsPlaced lane → AreFlights lane.log.shape lane.moves lane.flights → IsInOrder lane
