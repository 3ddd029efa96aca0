-- The numbers of the places of a turn.
use Rattle.std.specs.Prelude.{ℕ, ◌==◌, if◌then◌else◌}
use Rattle.turn_register.specs.declared.place.TurnPlace.{TurnPlace}
use Rattle.turn_register.specs.declared.place.TurnPlace.TheVariants as places

-- the number of a place
abbrev pub number_of_place : TurnPlace → ℕ
number_of_place places.Whole = 0
number_of_place places.Draw = 1
number_of_place places.SeePending = 2
number_of_place places.SeeFlushed = 3
number_of_place places.Lock = 4
number_of_place places.SeeLocked = 5
number_of_place places.Hide = 6
number_of_place places.DrawFlush = 7
number_of_place places.Show = 8
number_of_place places.Clear = 9
number_of_place places.SetLater = 10
number_of_place places.Unlock = 11

-- the place of a number: one that is no place's stands for a turn that is whole
abbrev pub place_of : ℕ → TurnPlace
place_of n =
    if n == 1 then places.Draw
    else (if n == 2 then places.SeePending
    else (if n == 3 then places.SeeFlushed
    else (if n == 4 then places.Lock
    else (if n == 5 then places.SeeLocked
    else (if n == 6 then places.Hide
    else (if n == 7 then places.DrawFlush
    else (if n == 8 then places.Show
    else (if n == 9 then places.Clear
    else (if n == 10 then places.SetLater
    else (if n == 11 then places.Unlock else places.Whole))))))))))
