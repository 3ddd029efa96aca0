-- What a buffer gives.
use Rattle.std.specs.Prelude.{ℕ, List, Bool, Option, Some, None, if◌then◌else◌}

-- what a buffer gives: what it holds, if a live value was put there
abbrev pub given : Bool → List ℕ → Option (List ℕ)
given is_live buffer = if is_live then Some buffer else None
