-- Admission by chance.
use Rattle.std.specs.Prelude.{ℕ, ◌%◌, Bool, nat_lt}

-- a word is admitted if its low 16 bits, as a number, are below the setting
abbrev pub is_admitted : ℕ → ℕ → Bool
is_admitted setting word = nat_lt (word % 65536) setting
