-- When a value expires.
use Rattle.std.specs.Prelude.{ℕ, List, Option, Some, None, Bool, ◌||◌, ◌==◌, nat_lt, if◌then◌else◌}
use Rattle.record_pages.specs.declared.timed_value.TimedValue.{TimedValue}

-- the expiry of a value that never expires
abbrev pub never : ℕ
never = 18446744073709551615

-- whether a value with this expiry is live at a moment
abbrev pub is_live : ℕ → ℕ → Bool
is_live expires moment = nat_lt moment expires || expires == never

-- a value with its expiry
abbrev pub timed : List ℕ → ℕ → TimedValue
timed value expires = record { value = value; expires = expires }

-- a value that never expires
abbrev pub lasting : List ℕ → TimedValue
lasting value = timed value never

-- what a value gives at a moment: itself, while it is live
abbrev pub value_at : ℕ → TimedValue → Option (List ℕ)
value_at moment v = if is_live v.expires moment then Some v.value else None
