-- Heights from numbers on, and the greatest height before a number.
use Rattle.std.specs.Prelude.{◌≡◌, ℕ, ◌+◌, ◌<◌, ◌≤◌, ◌⊎◌, List, Contains, length, slice_get, Some}
use Rattle.std.specs.List.Sorted.{IsNonDecreasingBy, IsPermutation}
use Rattle.history_window.specs.declared.peak.Peak.{Peak}
use Rattle.history_window.specs.declared.peaks.Peaks.{Peaks}

-- where a peak stands
abbrev pub foot_of : Peak → ℕ
foot_of peak = peak.foot

-- a number is the height of a peak that stands before a limit
pub record IsHeightBefore (peaks : List Peak) (limit n : ℕ) : Type 0 where
  pub peak : Peak
  pub listed : Contains peaks peak
  pub low : peak.foot < limit
  pub is : peak.height ≡ n

-- a peak stands before a number, and is at least as high
pub record IsCovered (peaks : List Peak) (n : ℕ) : Type 0 where
  pub peak : Peak
  pub listed : Contains peaks peak
  pub low : peak.foot < n
  pub high : n ≤ peak.height

-- a peak below an index has this height
pub record IsHeightAt (peaks : List Peak) (upto top : ℕ) : Type 0 where
  pub index : ℕ
  pub peak : Peak
  pub within : index < upto
  pub at : slice_get peaks index ≡ Some peak
  pub is : peak.height ≡ top

-- of the peaks below an index the greatest height, 0 if there are none
pub record IsTopBelow (peaks : List Peak) (upto top : ℕ) : Type 0 where
  pub most : (k : ℕ) (peak : Peak) → k < upto → slice_get peaks k ≡ Some peak → peak.height ≤ top
  pub is : ((upto ≡ 0) × (top ≡ 0)) ⊎ IsHeightAt peaks upto top

-- for each index the greatest height up to it
pub record AreTops (peaks : List Peak) (upto : ℕ) (tops : List ℕ) : Type 0 where
  pub count : length tops ≡ upto
  pub each : (k top : ℕ) → slice_get tops k ≡ Some top → IsTopBelow peaks (k + 1) top

-- peaks are in order, with their tops
pub record AreRaised (peaks : Peaks) : Type 0 where
  pub rise : IsNonDecreasingBy foot_of peaks.items.items
  pub tops : AreTops peaks.items.items (length peaks.items.items) peaks.tops.items

-- the same peaks in order
pub record ArePeaks (made : List Peak) (peaks : Peaks) : Type 0 where
  pub moved : IsPermutation made peaks.items.items
  pub raised : AreRaised peaks
