-- A device with what it was asked. The numbers are modulo 2^64.
use Rattle.std.specs.Prelude.{ℕ, ◌+◌, ◌%◌, ◌^◌, Result, Ok, Err}
use Rattle.page_device.specs.declared.device_counts.DeviceCounts.{DeviceCounts}

-- a device, and what it was asked
pub record CountedDevice (D : Type 0) : Type 0 where
  pub device : D
  pub counts : DeviceCounts

-- nothing was asked
abbrev pub no_device_counts : DeviceCounts
no_device_counts = record { pages_read = 0; reads_failed = 0; pages_written = 0; writes_failed = 0 }

-- one more, modulo 2^64
abbrev pub more : ℕ → ℕ
more n = (n + 1) % 2 ^ 64

-- one read more, with this result
abbrev pub with_read : {T E : Type 0} → Result T E → DeviceCounts → DeviceCounts
with_read (Ok x) counts = record counts { pages_read = more counts.pages_read }
with_read (Err e) counts = record counts { reads_failed = more counts.reads_failed }

-- one write more, with this result
abbrev pub with_write : {T E : Type 0} → Result T E → DeviceCounts → DeviceCounts
with_write (Ok x) counts = record counts { pages_written = more counts.pages_written }
with_write (Err e) counts = record counts { writes_failed = more counts.writes_failed }
