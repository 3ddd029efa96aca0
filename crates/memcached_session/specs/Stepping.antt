-- One step of a session.
use Rattle.std.specs.Prelude.{◌≡◌, ℕ, Bool, ◌&&◌, nat_le, if◌then◌else◌, List, ◌++◌, length, drop, Option, Some, None}
use Rattle.service_lane.specs.Serving.{Serving}
use Rattle.memcached_text.specs.declared.reader_state.ReaderState.{ReaderState}
use Rattle.memcached_text.specs.declared.reader_state.ReaderState.TheVariants.{Closed}
use Rattle.memcached_text.specs.Asked.{Asked, AskQuit}
use Rattle.memcached_text.specs.Steps.{Told, Outcome, TellRequest, step_of}
use Rattle.memcached_session.specs.declared.done.SessionDone.{SessionDone}
use Rattle.memcached_session.specs.declared.outcome.SessionOutcome.{SessionOutcome}
use Rattle.memcached_session.specs.declared.outcome.SessionOutcome.TheVariants.{Lost}
use Rattle.memcached_session.specs.declared.session.Session.{Session}
use Rattle.memcached_session.specs.Alone.{alone_said}
use Rattle.memcached_session.specs.Counting.{command_of, number_of_command, number_of_outcome}
use Rattle.memcached_session.specs.Doing.{DoesKeyed}
use Rattle.memcached_session.specs.Framing.{Frame}
use Rattle.memcached_session.specs.Keyed.{KeyAsked, keyed_of}
use Rattle.memcached_session.specs.Saying.{Said}
use Rattle.memcached_session.specs.Standing.{state_of}

-- after quit the client is to be closed
abbrev pub state_asked : Asked → ReaderState → ReaderState
state_asked AskQuit state = Closed
state_asked _ state = state

abbrev pub state_after : Told → ReaderState → ReaderState
state_after (TellRequest asked) state = state_asked asked state
state_after _ state = state

-- A text was written to the front of the room, and all else of the room is as it was; or none was, and the room is as it was.
pub record Fronts (text old : List ℕ) (n : ℕ) (new : List ℕ) : Type 0 where
  pub count : n ≡ length text
  pub room : new ≡ text ++ drop n old

-- how many bytes of a text are written to a room: all of them; none if the text is longer than the room, or than 4,096 bytes
abbrev pub written_in : List ℕ → List ℕ → Option ℕ
written_in room text = if nat_le (length text) 4096 && nat_le (length text) (length room) then Some (length text) else None

abbrev pub Writes : List ℕ → List ℕ → Option ℕ → List ℕ → Type 0
Writes text old None new = new ≡ old
Writes text old (Some n) new = Fronts text old n new

-- what is reported, by how many bytes were written; if the answer was lost, that
abbrev pub done_by : ℕ → ℕ → SessionOutcome → Option ℕ → SessionDone
done_by taken command outcome None = record { taken = taken; answered = 0; command = command; outcome = number_of_outcome Lost }
done_by taken command outcome (Some n) = record { taken = taken; answered = n; command = command; outcome = number_of_outcome outcome }

-- where the session stands: if the answer was lost, it is to be closed
abbrev pub state_by : ReaderState → Option ℕ → ReaderState
state_by state None = Closed
state_by state (Some n) = state

-- A step ends: the answer is written, or lost exactly if it is too long for the room; and the session stands where it is to.
pub record Settles (taken : ℕ) (state : ReaderState) (command : ℕ) (said : Said) (room : List ℕ) (done : SessionDone) (session : Session) (new_room : List ℕ) : Type 0 where
  pub writes : Writes said.text room (written_in room said.text) new_room
  pub done_is : done ≡ done_by taken command said.outcome (written_in room said.text)
  pub session_is : state_of session ≡ state_by state (written_in room said.text)

-- what a reader gave was answered so
abbrev pub SettlesAs : Outcome → Said → List ℕ → SessionDone → Session → List ℕ → Type 0
SettlesAs o said room done session new_room = Settles o.taken (state_after o.told o.state) (number_of_command (command_of o.told)) said room done session new_room

-- nothing was done
pub record IsIdle (session : Session) (room : List ℕ) (done : SessionDone) (new_session : Session) (new_room : List ℕ) : Type 0 where
  pub done_is : done ≡ record { taken = 0; answered = 0; command = 0; outcome = 0 }
  pub session_is : new_session ≡ session
  pub room_is : new_room ≡ room

-- a step without a lane, which does nothing if something is asked of one
abbrev pub StepsBy : Option KeyAsked → Bool → Outcome → Session → List ℕ → SessionDone → Session → List ℕ → Type 0
StepsBy (Some asked) refuses o session room done new_session new_room = IsIdle session room done new_session new_room
StepsBy None refuses o session room done new_session new_room = SettlesAs o (alone_said refuses o.told) room done new_session new_room

-- A step without a lane takes what the reader takes.
abbrev pub Steps : Bool → Session → List ℕ → List ℕ → SessionDone → Session → List ℕ → Type 0
Steps refuses session bytes room done new_session new_room =
    let o = step_of 2039 (state_of session) bytes in
    StepsBy (keyed_of o.told) refuses o session room done new_session new_room

-- what was asked of a lane was done, and answered
pub record DoesAndAnswers {D : Type 0} (f : Frame D) (asked : KeyAsked) (o : Outcome) (room : List ℕ) (old : Serving D) (done : SessionDone) (session : Session) (new_room : List ℕ) (new : Serving D) : Type 0 where
  pub said : Said
  pub does_it : DoesKeyed f asked old said new
  pub settles : SettlesAs o said room done session new_room

-- a step with a lane, which does nothing if nothing is asked of one
abbrev pub LaneStepsBy : {D : Type 0} → Option KeyAsked → Frame D → Outcome → Session → List ℕ → Serving D → SessionDone → Session → List ℕ → Serving D → Type 0
LaneStepsBy (Some asked) f o session room old done new_session new_room new = DoesAndAnswers f asked o room old done new_session new_room new
LaneStepsBy None f o session room old done new_session new_room new = IsIdle session room done new_session new_room × (new ≡ old)

-- A step with a lane takes what the reader takes.
abbrev pub LaneSteps : {D : Type 0} → Frame D → Session → List ℕ → List ℕ → Serving D → SessionDone → Session → List ℕ → Serving D → Type 0
LaneSteps f session bytes room old done new_session new_room new =
    let o = step_of 2039 (state_of session) bytes in
    LaneStepsBy (keyed_of o.told) f o session room old done new_session new_room new
