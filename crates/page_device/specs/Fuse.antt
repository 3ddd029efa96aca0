-- What a fuse over a device is.
use Rattle.std.specs.Prelude.{ℕ, ◌+◌, ◌%◌, ◌^◌, Bool, nat_lt, ◌==◌, if◌then◌else◌}

-- A device over another one that refuses call number at, and if it is for good each later one. Calls are
-- counted from 1, up to at.
pub record Fused (D : Type 0) : Type 0 where
  pub inner : D
  pub at : ℕ
  pub for_good : Bool
  pub calls : ℕ
  pub refused : ℕ

-- a new fuse, which has met no call
abbrev pub new_fuse : {D : Type 0} → D → ℕ → Bool → Fused D
new_fuse inner at for_good = record { inner = inner; at = at; for_good = for_good; calls = 0; refused = 0 }

-- the next call is refused: it is call number at, or a later one if the fuse is for good
abbrev pub refuses : {D : Type 0} → Fused D → Bool
refuses f = if nat_lt f.calls f.at then f.calls + 1 == f.at else f.for_good

-- the number of counted calls after one more
abbrev pub calls_after : {D : Type 0} → Fused D → ℕ
calls_after f = if nat_lt f.calls f.at then f.calls + 1 else f.calls

-- the number of refused calls, modulo 2^64, after one more call
abbrev pub refused_after : {D : Type 0} → Fused D → ℕ
refused_after f = if refuses f then ((f.refused + 1) % 2 ^ 64) else f.refused

-- the fuse after a call that leaves this device below
abbrev pub after_call : {D : Type 0} → Fused D → D → Fused D
after_call f inner = record { inner = inner; at = f.at; for_good = f.for_good; calls = calls_after f; refused = refused_after f }

-- the failures of a fuse, modulo 2^64: those of the device below and its own refusals
abbrev pub total_failures : ℕ → ℕ → ℕ
total_failures below refused = (below + refused) % 2 ^ 64
