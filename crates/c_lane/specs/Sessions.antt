-- Sessions of memcached's text protocol over a lane as C has it.
use Rattle.std.specs.Prelude.{◌≡◌, ℕ, List}
use Rattle.std.specs.Int.{from_bool}
use Rattle.page_device.specs.Counting.{CountedDevice}
use Rattle.rriparoo.specs.Rriparoo.{rriparoo_plan}
use Rattle.service_lane.specs.declared.helped.Helped.{Helped}
use Rattle.service_lane.specs.Serving.{Serving}
use Rattle.service_lane.specs.Upkeep.{Helps}
use Rattle.service_lane.specs.Words.{next_word, next_words}
use Rattle.memcached_session.specs.declared.done.SessionDone.{SessionDone}
use Rattle.memcached_session.specs.declared.session.Session.{Session}
use Rattle.memcached_session.specs.declared.turn.SessionTurn.{SessionTurn}
use Rattle.memcached_session.specs.declared.want.Need.{Need}
use Rattle.memcached_session.specs.declared.want.Need.TheVariants as needs
use Rattle.memcached_session.specs.Framing.{Frame, frame_of, turn_of}
use Rattle.memcached_session.specs.Stepping.{LaneSteps}
use Rattle.memcached_session.specs.Wanting.{WantShown, WantLane, WantAlone, number_of_kind}
use Rattle.c_lane.specs.declared.seed.Seed.{Seed}
use Rattle.c_lane.specs.declared.session_want.SessionWanted.{SessionWanted}
use Rattle.c_lane.specs.Lane.{LaneState, Laws, page_bytes, honest_in, failures_in, held_in}
use Rattle.c_lane.specs.Placing.{place_in}

-- what a lane of C's gives a step: its device, and the next word of admission
abbrev pub frame_in : {D : Type 0} → Laws D → SessionTurn → LaneState D → Frame (CountedDevice D)
frame_in laws turn old = frame_of page_bytes (honest_in laws) (failures_in laws) (held_in laws) (turn_of turn (next_word old.words)) turn.cas

-- A step of a session with a lane: the step of the lane that serves, by the next word of admission, and help after it.
pub record SessionSteps {D : Type 0} (laws : Laws D) (turn : SessionTurn) (session : Session) (bytes room : List ℕ) (old : LaneState D) (done : SessionDone) (new_session : Session) (new_room : List ℕ) (new : LaneState D) : Type 0 where
  pub between : Serving (CountedDevice D)
  pub helped : Helped
  pub steps : LaneSteps (frame_in laws turn old) session bytes room old.serving done new_session new_room between
  pub helps : Helps page_bytes (honest_in laws) (failures_in laws) (held_in laws) rriparoo_plan between helped new.serving
  pub words : new.words ≡ next_words old.words

-- the number by which C knows a need
abbrev pub number_of_need : Need → ℕ
number_of_need needs.More = 0
number_of_need needs.Step = 1
number_of_need (needs.FlushAll delay) = 3
number_of_need (needs.Stats kind) = 4
number_of_need (needs.Verbosity level) = 5
number_of_need (needs.Shutdown graceful) = 6
number_of_need needs.Close = 7

-- the number that belongs to a need
abbrev pub argument_of_need : Need → ℕ
argument_of_need needs.More = 0
argument_of_need needs.Step = 0
argument_of_need (needs.FlushAll delay) = delay
argument_of_need (needs.Stats kind) = number_of_kind kind
argument_of_need (needs.Verbosity level) = level
argument_of_need (needs.Shutdown graceful) = from_bool graceful
argument_of_need needs.Close = 0

-- what a step needs, in numbers for C: a lane, 2, with the place of its key, and 1 if an item may get a number; or something else
abbrev pub wanted_by : Seed → ℕ → WantShown → SessionWanted
wanted_by seed lanes (WantLane key number) = record { wants = 2; argument = from_bool number; place = place_in seed lanes key }
wanted_by seed lanes (WantAlone need) = record { wants = number_of_need need; argument = argument_of_need need; place = record { lane = 0; word = 0 } }
