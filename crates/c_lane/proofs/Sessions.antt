-- A step of a session with the lane that serves, and the help after it, are one to callers in C.
use Rattle.std.proofs.Common.{◌≡◌, ℕ, List, ap, subst}
use Rattle.rand_pcg.specs.Lcg.{Lcg}
use Rattle.rand_pcg.specs.Pcg.{pcg32}
use Rattle.page_device.specs.Counting.{CountedDevice}
use Rattle.rriparoo.specs.Rriparoo.{rriparoo_plan}
use Rattle.service_lane.specs.declared.helped.Helped.{Helped}
use Rattle.service_lane.specs.Serving.{Serving}
use Rattle.service_lane.specs.Upkeep.{Helps}
use Rattle.service_lane.specs.Words.{next_word}
use Rattle.memcached_session.specs.declared.done.SessionDone.{SessionDone}
use Rattle.memcached_session.specs.declared.session.Session.{Session}
use Rattle.memcached_session.specs.declared.turn.SessionTurn.{SessionTurn}
use Rattle.memcached_session.specs.Stepping.{LaneSteps}
use Rattle.memcached_session.specs.Framing.{frame_of, turn_of}
use Rattle.c_lane.specs.Lane.{LaneState, Laws, page_bytes, honest_in, failures_in, held_in}
use Rattle.c_lane.specs.Sessions.{SessionSteps}

module _ {D : Type 0} (laws : Laws D) (turn : SessionTurn) (session : Session) (bytes room : List ℕ) (old : LaneState D) (word : ℕ) (words : Lcg) (drawn : ◌≡◌ {A = ℕ × Lcg} (word, words) (pcg32 old.words)) (done : SessionDone) (new_session : Session) (new_room : List ℕ) (between after : Serving (CountedDevice D)) (helped : Helped) (helps : Helps page_bytes (honest_in laws) (failures_in laws) (held_in laws) rriparoo_plan between helped after) where
  word_is : word ≡ next_word old.words
  word_is = ap (λ (p : ℕ × Lcg). p.0) drawn

  pub stepped : LaneSteps (frame_of page_bytes (honest_in laws) (failures_in laws) (held_in laws) (turn_of turn word) turn.cas) session bytes room old.serving done new_session new_room between →
      SessionSteps laws turn session bytes room old done new_session new_room (record { serving = after; words = words })
  stepped steps = record {
    between = between;
    helped = helped;
    steps =
        subst (λ (w : ℕ). LaneSteps (frame_of page_bytes (honest_in laws) (failures_in laws) (held_in laws) (turn_of turn w) turn.cas) session bytes room old.serving done new_session new_room between) word_is steps;
    helps = helps;
    words = ap (λ (p : ℕ × Lcg). p.1) drawn;
  }
