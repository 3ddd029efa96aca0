-- When a flush is made, and where numbers begin.
use Rattle.std.specs.Prelude.{ℕ, ◌+◌, ◌*◌, Bool, not, ◌&&◌, ◌==◌, nat_le, nat_lt, min, if◌then◌else◌}

-- the greatest number of 64 bits: while it is that of the last flush, all items are hidden
abbrev pub all_hidden : ℕ
all_hidden = 18446744073709551615

-- a flush that is to come at a moment, 0 for none, is to be made at this one
abbrev pub is_due : ℕ → ℕ → Bool
is_due pending moment = not (pending == 0) && nat_le pending moment

-- the moment of a flush, 0 for now: up to 30 days count from now, and more are seconds since 1970
abbrev pub later_of : ℕ → ℕ → ℕ
later_of delay now =
    if delay == 0 then 0
    else (if nat_le delay 2592000 then min (now + delay) all_hidden
    else (if nat_lt now delay then delay else 0))

-- the first number, by microseconds since 1970
abbrev pub first_number : ℕ → ℕ
first_number microseconds = min microseconds 36028797018963967 * 256
