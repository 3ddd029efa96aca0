-- What a server gives a command, and what is said of a lane's device.
use Rattle.std.specs.Prelude.{ℕ, Bool, List, Option}
use Rattle.item_lane.specs.declared.command_turn.CommandTurn.{CommandTurn}
use Rattle.memcached_session.specs.declared.lane_turn.LaneTurn.{LaneTurn}
use Rattle.memcached_session.specs.declared.turn.SessionTurn.{SessionTurn}

-- what is said of a lane's device, and what a server gives a command: its turn, and the number that an item gets
pub record Frame (D : Type 0) : Type 0 where
  pub size : ℕ
  pub honest : D → Bool
  pub failures : D → ℕ
  pub held : D → ℕ → Option (List ℕ)
  pub turn : CommandTurn
  pub cas : ℕ

abbrev pub frame_of : {D : Type 0} → ℕ → (D → Bool) → (D → ℕ) → (D → ℕ → Option (List ℕ)) → CommandTurn → ℕ → Frame D
frame_of size honest failures held turn cas = record { size = size; honest = honest; failures = failures; held = held; turn = turn; cas = cas }

-- the turn of a command, with its word of admission
abbrev pub turn_of : SessionTurn → ℕ → CommandTurn
turn_of turn word = record { moment = turn.moment; flushed = turn.flushed; word = word }

-- what a step with a lane is given, by the same word
abbrev pub lane_turn_of : SessionTurn → ℕ → LaneTurn
lane_turn_of turn word = record { command = turn_of turn word; cas = turn.cas }
