-- Text that a terminal shows as it is.
use Rattle.std.specs.Prelude.{ℕ, List, Bool, ◌==◌, ◌||◌, ◌&&◌, nat_lt, IsTrue}
use Rattle.std.specs.List.{list_all}

-- printable ASCII, or a line feed
abbrev pub is_plain : ℕ → Bool
is_plain byte = (nat_lt 31 byte && nat_lt byte 127) || (byte == 10)

-- a text of printable ASCII and line feeds alone
pub record IsPlain (text : List ℕ) : Type 0 where
  pub each : IsTrue (list_all is_plain text)
