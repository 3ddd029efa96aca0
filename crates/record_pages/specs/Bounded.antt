-- The lengths of keys and values.
use Rattle.std.specs.Prelude.{ℕ, ◌<◌, ◌≤◌, List, length}

-- a key has 1 to 255 bytes
abbrev pub IsKey : List ℕ → Type 0
IsKey bytes = (0 < length bytes) × (length bytes ≤ 255)

-- a value has at most 2,048 bytes
abbrev pub IsValue : List ℕ → Type 0
IsValue bytes = length bytes ≤ 2048
