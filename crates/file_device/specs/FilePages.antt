-- What is known of a device in a file.
use Rattle.std.specs.Prelude.{ℕ, Result}
use Rattle.page_device.specs.Device.{failures_after}

-- its number of pages, and how many of its calls have failed, modulo 2^64
pub record FilePages : Type 0 where
  pub pages : ℕ
  pub failures : ℕ

-- a device of this many pages that has met no call
abbrev pub new_device : ℕ → FilePages
new_device pages = record { pages = pages; failures = 0 }

-- the device after a call with this result
abbrev pub after_call : {T E : Type 0} → FilePages → Result T E → FilePages
after_call device result = record { pages = device.pages; failures = failures_after device.failures result }
