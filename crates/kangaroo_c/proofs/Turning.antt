-- A step that a lane did not refuse.
use Rattle.std.proofs.Common.{◌≡◌, ℕ, List, Option, Some, None, sym, subst}
use Rattle.memcached_session.specs.declared.done.SessionDone.{SessionDone}
use Rattle.memcached_session.specs.declared.session.Session.{Session}
use Rattle.turn_register.specs.declared.turn.RegisterTurn.{RegisterTurn}
use Rattle.kangaroo_c.specs.declared.kept_lane.KeptLane.{KeptLane}
use Rattle.kangaroo_c.specs.Turning.{refusal_of, Stepped, StepsBy, StepsAt}

module _ (turn : RegisterTurn) (session : Session) (bytes room : List ℕ) (number : ℕ) (done : SessionDone) (new_session : Session) (new_room : List ℕ) (new : Option KeptLane) where
  -- a step with the lane that a place had
  pub stepped_at : (place : Option KeptLane) (old : KeptLane) → place ≡ Some old → refusal_of old.home old.last turn ≡ None →
      Stepped turn session bytes room old number done new_session new_room new → StepsAt turn session bytes room place number done new_session new_room new
  stepped_at place old is taken stepped =
      subst (λ (p : Option KeptLane). StepsAt turn session bytes room p number done new_session new_room new) (sym is)
      (subst (λ (r : Option ℕ). StepsBy r turn session bytes room old number done new_session new_room new) (sym taken) stepped)
