-- Which turn may follow another in a lane.
use Rattle.std.specs.Prelude.{Bool, not, ◌&&◌, ◌||◌, ◌==◌, nat_le, nat_lt, if◌then◌else◌}
use Rattle.turn_register.specs.declared.last_turn.LastTurn.{LastTurn}
use Rattle.turn_register.specs.declared.turn.RegisterTurn.{RegisterTurn}
use Rattle.turn_register.specs.Delays.{all_hidden}

-- no turn was given
abbrev pub no_turn : LastTurn
no_turn = record { moment = 0; flushed = 0; cas = 0 }

-- the number that a turn gives is above the last one, and above that of its flush
abbrev pub is_above : LastTurn → RegisterTurn → Bool
is_above last turn = nat_lt last.cas turn.cas && nat_lt turn.flushed turn.cas

-- a turn may follow: it is whole and no flush; its moment is not before the last one, nor the flush that it saw before one that was seen;
-- a number that it gives is above the last one, and above that of its flush
abbrev pub follows : LastTurn → RegisterTurn → Bool
follows last turn =
    (turn.at == 0) && nat_le turn.kind 1 && nat_le last.moment turn.moment && ((turn.flushed == all_hidden) || nat_le last.flushed turn.flushed)
    && (not (turn.kind == 1) || is_above last turn)

-- what the turns were after one more
abbrev pub last_after : LastTurn → RegisterTurn → LastTurn
last_after last turn = record {
  moment = turn.moment;
  flushed = if turn.flushed == all_hidden then last.flushed else turn.flushed;
  cas = if turn.kind == 1 then turn.cas else last.cas;
}
