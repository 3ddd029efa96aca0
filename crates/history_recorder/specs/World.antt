-- Runs of a world of lanes and callers.
use Rattle.std.specs.Prelude.{◌≡◌, ℕ, List, [], ◌∷◌, All, slice_get, slice_set, Some}
use Rattle.record_pages.specs.declared.layout.Layout.{Layout}
use Rattle.mover.specs.Lane.{LaneState}
use Rattle.recorded_lane.specs.Lane.{IsSound}
use Rattle.history_recorder.specs.declared.recorded_call.RecordedCall.{RecordedCall}
use Rattle.history_recorder.specs.declared.event.Event.{Event}
use Rattle.history_recorder.specs.declared.event.Event.TheVariants as events
use Rattle.history_recorder.specs.declared.operation.Operation.{Operation}
use Rattle.history_recorder.specs.declared.phase.Phase.TheVariants as phases
use Rattle.history_recorder.specs.declared.reply.Reply.{Reply}
use Rattle.history_recorder.specs.declared.reply.Reply.TheVariants as replies
use Rattle.history_recorder.specs.Operations.{lane_of}
use Rattle.history_recorder.specs.Commands.{IsOperation, IsBackground}
use Rattle.history_recorder.specs.Books.{Books, deeds_booked, after_event, IsDoing, IsReplied}

-- a world: its books, and what each lane holds
pub record World : Type 0 where
  pub books : Books
  pub states : List LaneState

-- one lane took a step, and the others are as they were
pub record OneSteps (lane : ℕ) (R : LaneState → LaneState → Type 0) (old new : List LaneState) : Type 0 where
  pub was : LaneState
  pub is : LaneState
  pub before : slice_get old lane ≡ Some was
  pub step : R was is
  pub after : new ≡ slice_set old lane is

-- what an event that is not ignored does to the lanes: an act is one step of its key's lane, and a background step one of its lane
abbrev pub LanesStep : ℕ → Layout → Books → List LaneState → Event → Reply → List LaneState → Type 0
LanesStep size layout books old event replies.Ignored new = new ≡ old
LanesStep size layout books old (events.Begin caller operation) reply new = new ≡ old
LanesStep size layout books old (events.Act caller) reply new =
    (start : ℕ) × (operation : Operation) × IsDoing books caller (phases.Began start operation)
    × OneSteps (lane_of layout operation) (λ was is. IsOperation size layout operation was reply is) old new
LanesStep size layout books old (events.End caller) reply new = new ≡ old
LanesStep size layout books old (events.Flush lane) reply new = OneSteps lane (λ was is. IsBackground size layout (events.Flush lane) was reply is) old new
LanesStep size layout books old (events.MoveBegin lane) reply new = OneSteps lane (λ was is. IsBackground size layout (events.MoveBegin lane) was reply is) old new
LanesStep size layout books old (events.Commit lane plan number) reply new = OneSteps lane (λ was is. IsBackground size layout (events.Commit lane plan number) was reply is) old new
LanesStep size layout books old (events.Abort lane number) reply new = OneSteps lane (λ was is. IsBackground size layout (events.Abort lane number) was reply is) old new

-- an event happens: it is replied as it may be, the books follow from it and the reply, and its lane takes the step
pub record Happens (size : ℕ) (layout : Layout) (old : World) (event : Event) (reply : Reply) (new : World) : Type 0 where
  pub replied : IsReplied size layout old.books event reply
  pub books : new.books ≡ after_event layout old.books event reply
  pub states : LanesStep size layout old.books old.states event reply new.states

-- a run: each event happens, in turn, with its reply, and these are the worlds after each
abbrev pub IsRun : ℕ → Layout → World → List Event → List Reply → List World → Type 0
IsRun size layout old [] [] [] = Unit {0}
IsRun size layout old (event ∷ events) (reply ∷ replies) (new ∷ worlds) =
    Happens size layout old event reply new × IsRun size layout new events replies worlds
IsRun size layout old events replies worlds = ⊥

-- every lane of a world is sound after the calls that it recorded
abbrev pub IsSoundWorld : World → Type 0
IsSoundWorld w =
    (lane : ℕ) (calls : List RecordedCall) (state : LaneState)
    → slice_get w.books.lanes lane ≡ Some calls → slice_get w.states lane ≡ Some state → IsSound state (deeds_booked calls)

-- a run of sound worlds
pub record IsSoundRun (size : ℕ) (layout : Layout) (old : World) (events : List Event) (replies : List Reply) : Type 0 where
  pub worlds : List World
  pub run : IsRun size layout old events replies worlds
  pub sound : All IsSoundWorld worlds
