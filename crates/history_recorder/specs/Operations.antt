-- What callers ask of a world, and what is recorded of it.
use Rattle.std.specs.Prelude.{ℕ, ◌<◌, ◌≤◌, List, [], ◌∷◌, ◌++◌, Option, Some, None, Ok, Err}
use Rattle.std.specs.Option.{option_map}
use Rattle.record_pages.specs.Sizes.{object_size, room}
use Rattle.record_pages.specs.declared.layout.Layout.{Layout}
use Rattle.set_hash.specs.Fnv.{fnv1a}
use Rattle.set_hash.specs.Place.{placed_of}
use Rattle.trace_file.specs.declared.act.Act.{Act}
use Rattle.trace_file.specs.declared.act.Act.TheVariants as acts
use Rattle.recorded_lane.specs.declared.noted.Noted.{Noted}
use Rattle.recorded_lane.specs.declared.record_fault.RecordFault.TheVariants as faults
use Rattle.recorded_lane.specs.declared.record_put_fault.RecordPutFault.TheVariants as put_faults
use Rattle.recorded_lane.specs.Lane.{act_of, max_calls}
use Rattle.history_recorder.specs.declared.operation.Operation.{Operation}
use Rattle.history_recorder.specs.declared.operation.Operation.TheVariants as operations
use Rattle.history_recorder.specs.declared.reply.Reply.{Reply}
use Rattle.history_recorder.specs.declared.reply.Reply.TheVariants as replies

-- the key of an operation
abbrev pub key_of : Operation → List ℕ
key_of (operations.Get key moment) = key
key_of (operations.Put key value word expires) = key
key_of (operations.Remove key) = key

-- the number of the lane of a key
abbrev pub lane_of_key : Layout → List ℕ → ℕ
lane_of_key layout key = (placed_of layout.lanes layout.sets (fnv1a key)).lane

-- the number of the lane of an operation: that of its key
abbrev pub lane_of : Layout → Operation → ℕ
lane_of layout operation = lane_of_key layout (key_of operation)

-- the act that is recorded of an operation by its reply; none if it was refused
abbrev pub act_done : Operation → Reply → Option Act
act_done (operations.Get key moment) (replies.Got (Ok answer)) = Some (act_of moment answer)
act_done (operations.Put key value word expires) (replies.Stored (Ok pushed)) = Some (acts.Put value expires)
act_done (operations.Remove key) (replies.Removed (Ok done)) = Some acts.Remove
act_done operation reply = None

-- the call that is recorded of an operation by its reply; none if it was refused
abbrev pub noted_by : ℕ → ℕ → ℕ → Operation → Reply → Option Noted
noted_by caller start point operation reply =
    option_map (λ act. record { caller = caller; start = start; point = point; key = key_of operation; act = act }) (act_done operation reply)

-- recorded calls, and one more if there is one
abbrev pub calls_with : List Noted → Option Noted → List Noted
calls_with calls None = calls
calls_with calls (Some noted) = calls ++ noted ∷ []

-- the object of a key and a value fits on a page of this size
abbrev pub FitsAlone : ℕ → List ℕ → List ℕ → Type 0
FitsAlone size key value = object_size key value ≤ room size

-- a lane that has recorded this many calls has room for one more
abbrev pub HasRoomFor : ℕ → Type 0
HasRoomFor count = count < max_calls

-- When a lane of this many calls, with pages of this size, answers so: a put is refused as too large exactly if its object
-- does not fit on a page, and then an operation finds the history full exactly if the lane records no more calls.
abbrev pub AnswersAt : ℕ → ℕ → Operation → Reply → Type 0
AnswersAt size count (operations.Get key moment) (replies.Got (Ok answer)) = HasRoomFor count
AnswersAt size count (operations.Get key moment) (replies.Got (Err faults.HistoryFull)) = ¬ HasRoomFor count
AnswersAt size count (operations.Get key moment) (replies.Got (Err faults.OutOfMemory)) = HasRoomFor count
AnswersAt size count (operations.Put key value word expires) (replies.Stored (Ok pushed)) = FitsAlone size key value × HasRoomFor count
AnswersAt size count (operations.Put key value word expires) (replies.Stored (Err put_faults.TooLarge)) = ¬ FitsAlone size key value
AnswersAt size count (operations.Put key value word expires) (replies.Stored (Err put_faults.HistoryFull)) = FitsAlone size key value × ¬ HasRoomFor count
AnswersAt size count (operations.Put key value word expires) (replies.Stored (Err put_faults.OutOfMemory)) = FitsAlone size key value × HasRoomFor count
AnswersAt size count (operations.Remove key) (replies.Removed (Ok done)) = HasRoomFor count
AnswersAt size count (operations.Remove key) (replies.Removed (Err faults.HistoryFull)) = ¬ HasRoomFor count
AnswersAt size count (operations.Remove key) (replies.Removed (Err faults.OutOfMemory)) = HasRoomFor count
AnswersAt size count operation reply = ⊥
