-- The books of a world: its number, what each caller is doing, and the calls of each lane. They follow from the events
-- and the replies alone.
use Rattle.std.specs.Prelude.{◌≡◌, ◌<◌, ◌≤◌, ℕ, ◌+◌, ◌^◌, List, [], ◌∷◌, ◌++◌, length, map, replicate, slice_get, slice_set, slice_index_or, Option, Some, None, zero, suc, All, IfSome}
use Rattle.std.specs.Option.{unwrap_or}
use Rattle.record_pages.specs.declared.layout.Layout.{Layout}
use Rattle.trace_file.specs.declared.act.Act.{Act}
use Rattle.certificate_checker.specs.Deeds.{Deed}
use Rattle.certificate_checker.specs.declared.done.Done.{Done}
use Rattle.recorded_lane.specs.declared.noted.Noted.{Noted}
use Rattle.recorded_lane.specs.Lane.{deed_noted}
use Rattle.history_recorder.specs.declared.recorded_call.RecordedCall.{RecordedCall}
use Rattle.history_recorder.specs.declared.open_call.OpenCall.{OpenCall}
use Rattle.history_recorder.specs.declared.event.Event.{Event}
use Rattle.history_recorder.specs.declared.event.Event.TheVariants as events
use Rattle.history_recorder.specs.declared.operation.Operation.{Operation}
use Rattle.history_recorder.specs.declared.operation.Operation.TheVariants as operations
use Rattle.history_recorder.specs.declared.phase.Phase.{Phase}
use Rattle.history_recorder.specs.declared.phase.Phase.TheVariants as phases
use Rattle.history_recorder.specs.declared.reply.Reply.{Reply}
use Rattle.history_recorder.specs.declared.reply.Reply.TheVariants as replies
use Rattle.history_recorder.specs.Operations.{key_of, lane_of, act_done, AnswersAt}

-- the number that was drawn last, what each caller is doing, and the calls of each lane, in the order of its record
pub record Books : Type 0 where
  pub number : ℕ
  pub callers : List Phase
  pub lanes : List (List RecordedCall)

-- nothing happened yet
abbrev pub opening_books : ℕ → ℕ → Books
opening_books lanes callers = record { number = 0; callers = replicate callers phases.Idle; lanes = replicate lanes [] }

-- the calls of a lane as it recorded them
abbrev pub noted_of : List RecordedCall → List Noted
noted_of calls = map (λ c. c.noted) calls

-- what a lane's calls did, in order
abbrev pub deeds_booked : List RecordedCall → List Deed
deeds_booked calls = map deed_noted (noted_of calls)

-- the calls of a lane of a world
abbrev pub lane_at : List (List RecordedCall) → ℕ → List RecordedCall
lane_at lanes lane = slice_index_or lanes lane []

-- the call of an operation that was done at a point, not ended yet
abbrev pub booked : ℕ → ℕ → ℕ → Operation → Act → RecordedCall
booked caller start point operation act =
    record { noted = record { caller = caller; start = start; point = point; key = key_of operation; act = act }; end = None }

-- one lane with a call more
abbrev pub with_call : List (List RecordedCall) → ℕ → RecordedCall → List (List RecordedCall)
with_call lanes lane call = slice_set lanes lane (lane_at lanes lane ++ call ∷ [])

-- the call at a position gets this end
abbrev pub ended_at : ℕ → ℕ → List RecordedCall → List RecordedCall
ended_at position end [] = []
ended_at zero end (c ∷ calls) = record c { end = Some end } ∷ calls
ended_at (suc position) end (c ∷ calls) = c ∷ ended_at position end calls

-- one lane, whose call at a position gets this end
abbrev pub with_end : List (List RecordedCall) → ℕ → ℕ → ℕ → List (List RecordedCall)
with_end lanes lane position end = slice_set lanes lane (ended_at position end (lane_at lanes lane))

-- the next number is drawn, and a caller is doing something else
abbrev pub drawn : Books → ℕ → Phase → Books
drawn books caller phase = record books { number = books.number + 1; callers = slice_set books.callers caller phase }

-- after an act: the number is its point; what was not refused is recorded, last in its lane; what was refused ends the call
abbrev pub after_act : Layout → Books → ℕ → ℕ → Operation → Option Act → Books
after_act layout books caller start operation None = drawn books caller phases.Idle
after_act layout books caller start operation (Some act) =
    record (drawn books caller (phases.Acted (lane_of layout operation) (length (lane_at books.lanes (lane_of layout operation))))) { lanes = with_call books.lanes (lane_of layout operation) (booked caller start (books.number + 1) operation act) }

-- after an act of a caller that is doing this
abbrev pub after_act_in : Layout → Books → ℕ → Phase → Reply → Books
after_act_in layout books caller (phases.Began start operation) reply = after_act layout books caller start operation (act_done operation reply)
after_act_in layout books caller phase reply = books

-- after an end of a caller that is doing this: the number is the end of its call
abbrev pub after_end_in : Books → ℕ → Phase → Books
after_end_in books caller (phases.Acted lane position) =
    record (drawn books caller phases.Idle) { lanes = with_end books.lanes lane position (books.number + 1) }
after_end_in books caller phase = books

-- the books after an event that was replied so
abbrev pub after_event : Layout → Books → Event → Reply → Books
after_event layout books event replies.Ignored = books
after_event layout books (events.Begin caller operation) reply = drawn books caller (phases.Began (books.number + 1) operation)
after_event layout books (events.Act caller) reply = after_act_in layout books caller (slice_index_or books.callers caller phases.Idle) reply
after_event layout books (events.End caller) reply = after_end_in books caller (slice_index_or books.callers caller phases.Idle)
after_event layout books event reply = books

-- the books after events and their replies
abbrev pub books_after : Layout → Books → List Event → List Reply → Books
books_after layout books (event ∷ events) (reply ∷ replies) = books_after layout (after_event layout books event reply) events replies
books_after layout books events replies = books

-- a recorded call as it is done: one without an end gets this one
abbrev pub closed : ℕ → RecordedCall → Done
closed last c = record {
  call = record { caller = c.noted.caller; start = c.noted.start; end = unwrap_or c.end last; key = c.noted.key; act = c.noted.act };
  point = c.noted.point;
}

-- the lanes' lists of done calls: calls that were not ended end at the last number plus one
abbrev pub dones : Books → List (List Done)
dones books = map (λ calls. map (closed (books.number + 1)) calls) books.lanes

-- ---- which replies an event can have

-- a caller is doing this
abbrev pub IsDoing : Books → ℕ → Phase → Type 0
IsDoing books caller phase = slice_get books.callers caller ≡ Some phase

-- an event applies: Begin needs an idle caller, Act one that began, End one that acted, a background step one of the lanes
abbrev pub Applies : Books → Event → Type 0
Applies books (events.Begin caller operation) = IsDoing books caller phases.Idle
Applies books (events.Act caller) = (start : ℕ) × (operation : Operation) × IsDoing books caller (phases.Began start operation)
Applies books (events.End caller) = (lane position : ℕ) × IsDoing books caller (phases.Acted lane position)
Applies books (events.Flush lane) = lane < length books.lanes
Applies books (events.MoveBegin lane) = lane < length books.lanes
Applies books (events.Commit lane plan number) = lane < length books.lanes
Applies books (events.Abort lane number) = lane < length books.lanes

-- a reply is of the kind of an operation
abbrev pub IsReplyOf : Operation → Reply → Type 0
IsReplyOf (operations.Get key moment) (replies.Got answer) = Unit {0}
IsReplyOf (operations.Put key value word expires) (replies.Stored pushed) = Unit {0}
IsReplyOf (operations.Remove key) (replies.Removed done) = Unit {0}
IsReplyOf operation reply = ⊥

-- a reply is of the kind of a background step
abbrev pub IsReplyTo : Event → Reply → Type 0
IsReplyTo (events.Flush lane) (replies.Flushed answer) = Unit {0}
IsReplyTo (events.MoveBegin lane) (replies.MoveBegun begin) = Unit {0}
IsReplyTo (events.Commit lane plan number) (replies.Committed answer) = Unit {0}
IsReplyTo (events.Abort lane number) (replies.Aborted answer) = Unit {0}
IsReplyTo event reply = ⊥

-- an event is a background step
abbrev pub IsBackgroundEvent : Event → Type 0
IsBackgroundEvent (events.Begin caller operation) = ⊥
IsBackgroundEvent (events.Act caller) = ⊥
IsBackgroundEvent (events.End caller) = ⊥
IsBackgroundEvent event = Unit {0}

-- The reply that an event that applies can have, in a world of pages of this size: the number that is drawn, or one of the
-- kind of what was asked. When an act is refused, want of memory aside, follows from its operation and from how many calls
-- its lane recorded.
abbrev pub CanReply : ℕ → Layout → Books → Event → Reply → Type 0
CanReply size layout books (events.Begin caller operation) (replies.Begun start) = start ≡ books.number + 1
CanReply size layout books (events.Act caller) reply =
    (start : ℕ) × (operation : Operation) × IsDoing books caller (phases.Began start operation) × IsReplyOf operation reply
    × AnswersAt size (length (lane_at books.lanes (lane_of layout operation))) operation reply
CanReply size layout books (events.End caller) (replies.Ended end) = end ≡ books.number + 1
CanReply size layout books event reply = IsReplyTo event reply

-- an event is replied so: it is ignored exactly if it does not apply
abbrev pub IsReplied : ℕ → Layout → Books → Event → Reply → Type 0
IsReplied size layout books event replies.Ignored = ¬ Applies books event
IsReplied size layout books event reply = Applies books event × CanReply size layout books event reply

-- each event of a list is replied so, in turn
abbrev pub AreReplied : ℕ → Layout → Books → List Event → List Reply → Type 0
AreReplied size layout books [] [] = Unit {0}
AreReplied size layout books (event ∷ events) (reply ∷ replies) =
    IsReplied size layout books event reply × AreReplied size layout (after_event layout books event reply) events replies
AreReplied size layout books events replies = ⊥

-- a number is left to be drawn
abbrev pub CanDraw : Books → Type 0
CanDraw books = books.number < 2 ^ 63

-- a call was taken from a caller that began one; if none was, nothing changed
abbrev pub TakesCall : Books → ℕ → Option OpenCall → Books → Type 0
TakesCall old caller (Some call) new =
    IsDoing old caller (phases.Began call.start call.operation) × (new ≡ record old { callers = slice_set old.callers caller phases.Idle })
TakesCall old caller None new = ((start : ℕ) (operation : Operation) → ¬ IsDoing old caller (phases.Began start operation)) × (new ≡ old)

-- a call that began did so at a number that was drawn
abbrev pub HasStarted : ℕ → Phase → Type 0
HasStarted number (phases.Began start operation) = start ≤ number
HasStarted number phases.Idle = Unit {0}
HasStarted number (phases.Acted lane position) = Unit {0}

-- a call was done by now, and no later than its end
abbrev pub IsDoneBy : ℕ → RecordedCall → Type 0
IsDoneBy number c = (c.noted.point ≤ number) × IfSome c.end (λ e. c.noted.point ≤ e)

-- what is true of books at each moment
pub record AreKept (books : Books) : Type 0 where
  pub started : All (HasStarted books.number) books.callers
  pub done : All (All (IsDoneBy books.number)) books.lanes

-- after an act that noted this call, or was refused
abbrev pub after_noted : Books → ℕ → ℕ → Option Noted → Books
after_noted books caller lane None = drawn books caller phases.Idle
after_noted books caller lane (Some noted) =
    record (drawn books caller (phases.Acted lane (length (lane_at books.lanes lane)))) { lanes = with_call books.lanes lane (record { noted = noted; end = None }) }
