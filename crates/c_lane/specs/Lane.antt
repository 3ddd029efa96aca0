-- A lane as C has it, and the device that it is over.
use Rattle.std.specs.Prelude.{ℕ, List, Option, Bool}
use Rattle.rand_pcg.specs.Lcg.{Lcg}
use Rattle.page_device.specs.Counting.{CountedDevice}
use Rattle.service_lane.specs.Serving.{Serving}

-- a lane that serves over a device that counts what it is asked, and the generator of its words of admission
pub record LaneState (D : Type 0) : Type 0 where
  pub serving : Serving (CountedDevice D)
  pub words : Lcg

-- what is said of a device: whether it gives back what was written, how many calls of it failed, and what its pages are known to hold
pub record Laws (D : Type 0) : Type 0 where
  pub is_honest : D → Bool
  pub failures : D → ℕ
  pub held : D → ℕ → Option (List ℕ)

abbrev pub laws_of : {D : Type 0} → (D → Bool) → (D → ℕ) → (D → ℕ → Option (List ℕ)) → Laws D
laws_of is_honest failures held = record { is_honest = is_honest; failures = failures; held = held }

-- the same of the device that counts
abbrev pub honest_in : {D : Type 0} → Laws D → CountedDevice D → Bool
honest_in laws counted = laws.is_honest counted.device

abbrev pub failures_in : {D : Type 0} → Laws D → CountedDevice D → ℕ
failures_in laws counted = laws.failures counted.device

abbrev pub held_in : {D : Type 0} → Laws D → CountedDevice D → ℕ → Option (List ℕ)
held_in laws counted = laws.held counted.device

-- the bytes of a page
abbrev pub page_bytes : ℕ
page_bytes = 4096
