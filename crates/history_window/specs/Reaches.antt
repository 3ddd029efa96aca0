-- Between which stamps a write is blocked by a hit.
use Rattle.std.specs.Prelude.{◌≡◌, ℕ, ◌<◌, ◌≤◌, ◌⊎◌, List, All, Contains, slice_get, Some, true}
use Rattle.history_window.specs.declared.coded_call.CodedCall.{CodedCall}
use Rattle.history_window.specs.declared.peak.Peak.{Peak}
use Rattle.history_window.specs.declared.peaks.Peaks.{Peaks}
use Rattle.history_window.specs.Peaks.{AreRaised}
use Rattle.history_window.specs.Ranks.{rank_of}

-- the start of a write of a call's key that ended before the call started
pub record IsOverStart (codes : List CodedCall) (code : CodedCall) (stamp : ℕ) : Type 0 where
  pub write : CodedCall
  pub listed : Contains codes write
  pub writes : write.writes ≡ true
  pub key : write.key ≡ code.key
  pub over : write.end < code.start
  pub is : write.start ≡ stamp

-- the last start of a write of a call's key that ended before the call started, or 0 if there is none
pub record IsLastOver (codes : List CodedCall) (code : CodedCall) (stamp : ℕ) : Type 0 where
  pub most : (start : ℕ) → IsOverStart codes code start → start ≤ stamp
  pub is : (stamp ≡ 0) ⊎ IsOverStart codes code stamp

-- the end of a put of a hit's value, if no write of the key stands between that put and the hit in time
pub record IsEarlyEnd (codes : List CodedCall) (code : CodedCall) (stamp : ℕ) : Type 0 where
  pub put : CodedCall
  pub listed : Contains codes put
  pub puts : put.puts ≡ true
  pub value : put.value ≡ code.value
  pub unreplaced : (write : CodedCall) → Contains codes write → write.writes ≡ true → write.key ≡ code.key → put.end < write.start → ¬ (write.end < code.start)
  pub is : put.end ≡ stamp

-- the start of a put of a hit's value that the hit does not precede
pub record IsLateStart (codes : List CodedCall) (code : CodedCall) (stamp : ℕ) : Type 0 where
  pub put : CodedCall
  pub listed : Contains codes put
  pub puts : put.puts ≡ true
  pub value : put.value ≡ code.value
  pub begun : put.start ≤ code.end
  pub is : put.start ≡ stamp

-- a hit that has such an end and such a start
pub record IsBlocking (codes : List CodedCall) (code : CodedCall) : Type 0 where
  pub reads : code.reads ≡ true
  pub end : ℕ
  pub start : ℕ
  pub early : IsEarlyEnd codes code end
  pub late : IsLateStart codes code start

-- a hit's block: from the first such end on, the last such start
pub record IsBlock (codes : List CodedCall) (code : CodedCall) (peak : Peak) : Type 0 where
  pub reads : code.reads ≡ true
  pub end : ℕ
  pub start : ℕ
  pub early : IsEarlyEnd codes code end
  pub late : IsLateStart codes code start
  pub first : (other : ℕ) → IsEarlyEnd codes code other → end ≤ other
  pub last : (other : ℕ) → IsLateStart codes code other → other ≤ start
  pub foot : peak.foot ≡ rank_of code.key end
  pub height : peak.height ≡ rank_of code.key start

-- a peak is the block of some hit
pub record IsSomeBlock (codes : List CodedCall) (peak : Peak) : Type 0 where
  pub hit : CodedCall
  pub listed : Contains codes hit
  pub is : IsBlock codes hit peak

-- the block of a hit is listed
pub record IsBlocked (codes : List CodedCall) (peaks : List Peak) (hit : CodedCall) : Type 0 where
  pub peak : Peak
  pub listed : Contains peaks peak
  pub is : IsBlock codes hit peak

-- the blocks of all hits below a position
pub record AreBlocksBelow (codes : List CodedCall) (upto : ℕ) (peaks : List Peak) : Type 0 where
  pub sound : All (IsSomeBlock codes) peaks
  pub complete : (k : ℕ) (hit : CodedCall) → k < upto → slice_get codes k ≡ Some hit → IsBlocking codes hit → IsBlocked codes peaks hit

-- the blocks of all hits, in order
pub record AreBlocks (codes : List CodedCall) (peaks : Peaks) : Type 0 where
  pub sound : All (IsSomeBlock codes) peaks.items.items
  pub complete : (hit : CodedCall) → Contains codes hit → IsBlocking codes hit → IsBlocked codes peaks.items.items hit
  pub raised : AreRaised peaks
