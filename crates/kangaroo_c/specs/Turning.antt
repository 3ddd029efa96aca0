-- Turns that a lane is given.
use Rattle.std.specs.Prelude.{◌≡◌, ℕ, not, ◌==◌, if◌then◌else◌, List, Option, Some, None, is_some}
use Rattle.std.specs.Int.{from_bool}
use Rattle.service_lane.specs.Upkeep.{due_in}
use Rattle.memcached_session.specs.declared.done.SessionDone.{SessionDone}
use Rattle.memcached_session.specs.declared.session.Session.{Session}
use Rattle.memcached_session.specs.declared.turn.SessionTurn.{SessionTurn}
use Rattle.turn_register.specs.declared.last_turn.LastTurn.{LastTurn}
use Rattle.turn_register.specs.declared.turn.RegisterTurn.{RegisterTurn}
use Rattle.turn_register.specs.Following.{follows, last_after}
use Rattle.turn_register.specs.Turns.{turn_begun}
use Rattle.c_lane.specs.declared.home.LaneHome.{LaneHome}
use Rattle.c_lane.specs.declared.session_want.SessionWanted.{SessionWanted}
use Rattle.c_lane.specs.Sessions.{SessionSteps}
use Rattle.kangaroo_c.specs.declared.kept_lane.KeptLane.{KeptLane}
use Rattle.kangaroo_c.specs.Telling.{page_laws}
use Rattle.kangaroo_c.specs.Telling.{page_laws}

-- a turn was begun for what a step wants, in a hold of the lane of a place
abbrev pub BeginsTurn : SessionWanted → ℕ → Option KeptLane → RegisterTurn → Type 0
BeginsTurn wanted now (Some kept) turn = turn ≡ turn_begun wanted.place.lane (not (wanted.argument == 0)) now kept.last.moment
BeginsTurn wanted now None turn = ⊥

-- why a lane refuses a turn, if it does: 2 if it is another lane's, and else 3 if it may not follow the last one
abbrev pub refusal_of : LaneHome → LastTurn → RegisterTurn → Option ℕ
refusal_of home last turn = if not (turn.lane == home.number) then Some 2 else (if not (follows last turn) then Some 3 else None)

-- what a step is given of a turn
abbrev pub given_of : RegisterTurn → SessionTurn
given_of turn = record { moment = turn.moment; flushed = turn.flushed; cas = turn.cas; refuses = 0; reserved = 0 }

-- Nothing was done, and the number says why.
pub record IsRefused (refusal : ℕ) (session : Session) (room : List ℕ) (old : Option KeptLane) (number : ℕ) (done : SessionDone) (new_session : Session) (new_room : List ℕ) (new : Option KeptLane) : Type 0 where
  pub number_is : number ≡ refusal
  pub done_is : done ≡ record { taken = 0; answered = 0; command = 0; outcome = 0 }
  pub session_is : new_session ≡ session
  pub room_is : new_room ≡ room
  pub lane_is : new ≡ old

-- A step was made with the lane, by this turn, which is its last one then. The number is 1 if upkeep is due in it, else 0.
pub record Stepped (turn : RegisterTurn) (session : Session) (bytes room : List ℕ) (old : KeptLane) (number : ℕ) (done : SessionDone) (new_session : Session) (new_room : List ℕ) (place : Option KeptLane) : Type 0 where
  pub new : KeptLane
  pub is : place ≡ Some new
  pub steps : SessionSteps page_laws (given_of turn) session bytes room old.lane done new_session new_room new.lane
  pub home : new.home ≡ old.home
  pub last : new.last ≡ last_after old.last turn
  pub due : number ≡ from_bool (is_some (due_in new.lane.serving))

-- a step by a turn that is refused, or is not
abbrev pub StepsBy : Option ℕ → RegisterTurn → Session → List ℕ → List ℕ → KeptLane → ℕ → SessionDone → Session → List ℕ → Option KeptLane → Type 0
StepsBy (Some refusal) turn session bytes room old number done new_session new_room new = IsRefused refusal session room (Some old) number done new_session new_room new
StepsBy None turn session bytes room old number done new_session new_room new = Stepped turn session bytes room old number done new_session new_room new

-- A step with the lane of a place, by a turn.
abbrev pub StepsAt : RegisterTurn → Session → List ℕ → List ℕ → Option KeptLane → ℕ → SessionDone → Session → List ℕ → Option KeptLane → Type 0
StepsAt turn session bytes room (Some old) number done new_session new_room new =
    StepsBy (refusal_of old.home old.last turn) turn session bytes room old number done new_session new_room new
StepsAt turn session bytes room None number done new_session new_room new = ⊥
