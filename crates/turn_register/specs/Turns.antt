-- How a turn is begun, and how it goes on.
use Rattle.std.specs.Prelude.{ℕ, Bool, not, ◌&&◌, ◌||◌, ◌==◌, nat_lt, max, if◌then◌else◌}
use Rattle.turn_register.specs.declared.place.TurnPlace.{TurnPlace}
use Rattle.turn_register.specs.declared.place.TurnPlace.TheVariants as places
use Rattle.turn_register.specs.declared.turn.RegisterTurn.{RegisterTurn}
use Rattle.turn_register.specs.Delays.{all_hidden, is_due, later_of}
use Rattle.turn_register.specs.Places.{number_of_place, place_of}

-- where a turn of a kind begins: one that gives a number draws it first, and a flush takes the lock
abbrev pub first_place : ℕ → TurnPlace
first_place kind = if kind == 0 then places.SeePending else (if kind == 1 then places.Draw else places.Lock)

-- where it goes on after the lock: a flush is whole, and a turn begins again
abbrev pub place_again : ℕ → TurnPlace
place_again kind = if kind == 0 then places.SeePending else (if kind == 1 then places.Draw else places.Whole)

-- the same turn at another place
abbrev pub at_place : TurnPlace → RegisterTurn → RegisterTurn
at_place place t = record t { at = number_of_place place }

-- the same turn at a place where this is written
abbrev pub writing : TurnPlace → ℕ → RegisterTurn → RegisterTurn
writing place word t = record (at_place place t) { word = word }

-- a turn of a kind, at its first place
abbrev pub turn_of_kind : ℕ → RegisterTurn
turn_of_kind kind = record { at = number_of_place (first_place kind); kind = kind; lane = 0; reserved = 0; word = 0; moment = 0; later = 0; cas = 0; flushed = 0 }

-- a turn of a command on a lane: its moment is now, or the last one of the lane if that is later
abbrev pub turn_begun : ℕ → Bool → ℕ → ℕ → RegisterTurn
turn_begun lane draws now last = record (turn_of_kind (if draws then 1 else 0)) { lane = lane; moment = max now last }

-- a flush after a delay
abbrev pub flush_begun : ℕ → ℕ → RegisterTurn
flush_begun delay now = record (turn_of_kind 2) { moment = now; later = later_of delay now }

-- a number was drawn
abbrev pub after_draw : RegisterTurn → ℕ → RegisterTurn
after_draw t cas = record (at_place places.SeePending t) { cas = cas }

-- what is to come was read: a flush that is due is made first
abbrev pub after_pending : RegisterTurn → ℕ → RegisterTurn
after_pending t pending = if is_due pending t.moment then at_place places.Lock t else at_place places.SeeFlushed t

-- A number that is not above that of the last flush is given up: beside a flush that is under way by way of its lock.
abbrev pub drawn_again : RegisterTurn → ℕ → RegisterTurn
drawn_again t flushed = if flushed == all_hidden then at_place places.Lock t else at_place places.Draw t

-- the number of the last flush was read: the turn is whole, if its own number is above that or it gives none
abbrev pub after_flushed : RegisterTurn → ℕ → RegisterTurn
after_flushed t flushed =
    if not (t.kind == 1) || nat_lt flushed t.cas then record (at_place places.Whole t) { flushed = flushed } else drawn_again t flushed

-- after a flush that was made, or was not to be: one that is to come is set
abbrev pub after_flush : RegisterTurn → RegisterTurn
after_flush t = if t.kind == 2 && not (t.later == 0) then writing places.SetLater t.later t else at_place places.Unlock t

-- in the hold of the lock: the flush is made if it is for now, or if one that was to come is due
abbrev pub after_locked : RegisterTurn → ℕ → RegisterTurn
after_locked t pending =
    if (t.kind == 2 && (t.later == 0)) || is_due pending t.moment then writing places.Hide all_hidden t else after_flush t

abbrev pub after_unlock : RegisterTurn → RegisterTurn
after_unlock t = at_place (place_again t.kind) t

-- how a turn goes on at a place, by what was read there
abbrev pub next_by : TurnPlace → RegisterTurn → ℕ → RegisterTurn
next_by places.Whole t read = t
next_by places.Draw t read = after_draw t read
next_by places.SeePending t read = after_pending t read
next_by places.SeeFlushed t read = after_flushed t read
next_by places.Lock t read = at_place places.SeeLocked t
next_by places.SeeLocked t read = after_locked t read
next_by places.Hide t read = at_place places.DrawFlush t
next_by places.DrawFlush t read = writing places.Show read t
next_by places.Show t read = writing places.Clear 0 t
next_by places.Clear t read = after_flush t
next_by places.SetLater t read = at_place places.Unlock t
next_by places.Unlock t read = after_unlock t

-- how a turn goes on
abbrev pub next_turn : RegisterTurn → ℕ → RegisterTurn
next_turn t read = next_by (place_of t.at) t read
