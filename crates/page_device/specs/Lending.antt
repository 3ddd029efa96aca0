-- What a call that is lent a device leaves of it.
use Rattle.std.specs.Prelude.{◌≡◌, ◌≢◌, ℕ, List, Option, Bool, true, false, IsTrue}
use Rattle.page_device.specs.Device.{faults_after}

-- The call only reads, or does not touch the device. Its count of failures tells whether a call of it failed; if it is
-- honest all pages stay.
pub record OnlyReads {D : Type 0} (page_count : D → ℕ) (is_honest : D → Bool) (failures : D → ℕ) (held : D → ℕ → Option (List ℕ)) (old : D) (failed : Bool) (new : D) : Type 0 where
  pub pages : page_count new ≡ page_count old
  pub honest : is_honest new ≡ is_honest old
  pub faults : failures new ≡ faults_after (failures old) failed
  pub same : IsTrue (is_honest old) → held new ≡ held old

-- this count of failures follows that one: a call of the device may have failed where the caller stopped, and none else
abbrev pub MayFail : Bool → ℕ → ℕ → Type 0
MayFail true before after = (failed : Bool) × (after ≡ faults_after before failed)
MayFail false before after = after ≡ before

-- The call only reads, and stops at a page that it can't have: at most one call of the device failed, and only if it
-- stopped. If the device is honest all pages stay.
pub record ReadsOrStops {D : Type 0} (page_count : D → ℕ) (is_honest : D → Bool) (failures : D → ℕ) (held : D → ℕ → Option (List ℕ)) (old : D) (stopped : Bool) (new : D) : Type 0 where
  pub pages : page_count new ≡ page_count old
  pub honest : is_honest new ≡ is_honest old
  pub may_fail : MayFail stopped (failures old) (failures new)
  pub same : IsTrue (is_honest old) → held new ≡ held old

-- The call writes this page alone. Its count of failures tells whether that failed; if the device is honest all other
-- pages stay.
pub record OnlyWrites {D : Type 0} (page_count : D → ℕ) (is_honest : D → Bool) (failures : D → ℕ) (held : D → ℕ → Option (List ℕ)) (page : ℕ) (old : D) (failed : Bool) (new : D) : Type 0 where
  pub pages : page_count new ≡ page_count old
  pub honest : is_honest new ≡ is_honest old
  pub faults : failures new ≡ faults_after (failures old) failed
  pub elsewhere : IsTrue (is_honest old) → (other : ℕ) → other ≢ page → held new other ≡ held old other
