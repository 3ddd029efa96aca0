-- When an item expires, by memcached's rule: up to 30 days count from now on, more are seconds since 1970, and a negative number is now.
use Rattle.std.specs.Prelude.{ℕ, ◌+◌, ◌-◌, ◌^◌, nat_lt, nat_le, if◌then◌else◌, Option, Some, None}
use Rattle.memcached_text.specs.declared.exptime.Exptime.{Exptime}
use Rattle.memcached_text.specs.declared.exptime.Exptime.TheVariants.{Never, At, Past}

-- a moment of 32 bits: a later one is the last of them
abbrev pub clamped : ℕ → ℕ
clamped moment = if nat_lt moment (2 ^ 32 - 1) then moment else 2 ^ 32 - 1

-- the first second at which an item is not live any more, by what a client says at a moment
abbrev pub expires_at : ℕ → Exptime → Option ℕ
expires_at moment Never = None
expires_at moment (At seconds) = if nat_le seconds 2592000 then Some (clamped (clamped moment + seconds)) else Some seconds
expires_at moment Past = Some (clamped moment)
