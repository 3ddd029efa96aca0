-- What an operation and a background step do to a lane, by what is replied: the steps of its store.
use Rattle.std.specs.Prelude.{◌≡◌, ◌⊎◌, ℕ, Ok, Err}
use Rattle.record_pages.specs.Expiry.{timed}
use Rattle.record_pages.specs.declared.answer.Answer.{Answer}
use Rattle.record_pages.specs.declared.layout.Layout.{Layout}
use Rattle.mover.specs.Lane.{LaneState}
use Rattle.mover.specs.Get.{GetGives}
use Rattle.mover.specs.Put.{put_step, IsStep}
use Rattle.mover.specs.Strike.{removed}
use Rattle.mover.specs.Flush.{LaneFlushes}
use Rattle.mover.specs.Begin.{BeginGives}
use Rattle.mover.specs.Commit.{CommitGives, AbortGives}
use Rattle.recorded_lane.specs.declared.record_fault.RecordFault.TheVariants as faults
use Rattle.history_recorder.specs.declared.event.Event.{Event}
use Rattle.history_recorder.specs.declared.event.Event.TheVariants as events
use Rattle.history_recorder.specs.declared.operation.Operation.{Operation}
use Rattle.history_recorder.specs.declared.operation.Operation.TheVariants as operations
use Rattle.history_recorder.specs.declared.reply.Reply.{Reply}
use Rattle.history_recorder.specs.declared.reply.Reply.TheVariants as replies

-- What an operation does to a lane of pages of this size. A refused one does nothing, but a get that was refused for
-- memory may have noted what it found.
abbrev pub IsOperation : ℕ → Layout → Operation → LaneState → Reply → LaneState → Type 0
IsOperation size layout (operations.Get key moment) old (replies.Got (Ok answer)) new = GetGives key moment old answer new
IsOperation size layout (operations.Get key moment) old (replies.Got (Err faults.HistoryFull)) new = new ≡ old
IsOperation size layout (operations.Get key moment) old (replies.Got (Err faults.OutOfMemory)) new =
    (new ≡ old) ⊎ ((answer : Answer) × GetGives key moment old answer new)
IsOperation size layout (operations.Put key value word expires) old (replies.Stored (Ok pushed)) new =
    IsStep (put_step size layout.admit (record { key = key; value = timed value expires }) word old) pushed new
IsOperation size layout (operations.Put key value word expires) old (replies.Stored (Err fault)) new = new ≡ old
IsOperation size layout (operations.Remove key) old (replies.Removed (Ok done)) new = new ≡ removed key old
IsOperation size layout (operations.Remove key) old (replies.Removed (Err fault)) new = new ≡ old
IsOperation size layout operation old reply new = ⊥

-- What a background step does to a lane of pages of this size. A move whose beginning is refused for memory does nothing.
abbrev pub IsBackground : ℕ → Layout → Event → LaneState → Reply → LaneState → Type 0
IsBackground size layout (events.Flush lane) old (replies.Flushed flushed) new = LaneFlushes old flushed new
IsBackground size layout (events.MoveBegin lane) old (replies.MoveBegun (Ok begun)) new = BeginGives size layout.threshold old begun new
IsBackground size layout (events.MoveBegin lane) old (replies.MoveBegun (Err refused)) new = new ≡ old
IsBackground size layout (events.Commit lane plan number) old (replies.Committed answer) new = CommitGives size plan number old answer new
IsBackground size layout (events.Abort lane number) old (replies.Aborted answer) new = AbortGives number old answer new
IsBackground size layout event old reply new = ⊥
