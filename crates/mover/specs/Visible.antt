-- The visible pairs of a lane.
use Rattle.std.specs.Prelude.{◌≡◌, ◌≢◌, ◌⊎◌, ℕ, List, Option, Some, All, IsTrue, map, Contains}
use Rattle.record_pages.specs.Expiry.{is_live, timed}
use Rattle.record_pages.specs.Recs.{Rec}
use Rattle.record_pages.specs.declared.answer.Answer.{Answer}
use Rattle.record_pages.specs.declared.answer.Answer.TheVariants.{Hit, Miss}
use Rattle.memory_cache.specs.declared.pair.Pair.{Pair}
use Rattle.klog.specs.Shown.{place_in, ArePlaced}
use Rattle.kset.specs.Laws.{AreOfTheirSets}
use Rattle.mover.specs.Flight.{Flight, IsUnstruck, AreOfSet}
use Rattle.mover.specs.Lane.{LaneState}

-- a record's pair
abbrev pub pair_of : Rec → Pair
pair_of r = record { key = r.key; value = r.value }

-- a pair is live in the log, or visible on the page of its key's set
abbrev pub IsOnFlash : LaneState → Pair → Type 0
IsOnFlash lane p =
    Contains (map (λ x. pair_of x.1) lane.live) p
    ⊎ Contains (map (λ x. pair_of x.1) (lane.visible (place_in lane.log.shape p.key).set)) p

-- a pair is in memory, or on flash
abbrev pub IsVisible : LaneState → Pair → Type 0
IsVisible lane p = Contains lane.memory.pairs p ⊎ IsOnFlash lane p

-- a pair is that of an item of a move in flight that was not struck
pub record IsHeldInFlight (lane : LaneState) (p : Pair) : Type 0 where
  pub its : Flight
  pub flies : Contains lane.flights its
  pub item : Rec
  pub unstruck : IsUnstruck its item
  pub pair : pair_of item ≡ p

-- a pair is visible, or it may become so by a move in flight
abbrev pub IsShown : LaneState → Pair → Type 0
IsShown lane p = IsVisible lane p ⊎ IsHeldInFlight lane p

-- The contract of every call. Each pair that is visible after it, or an item in flight that is not struck, was one of these
-- before it, and the call did not strike its key; or it is the pair that the call put.
abbrev pub ShowsFrom : Option (List ℕ) → Option Pair → LaneState → LaneState → Type 0
ShowsFrom struck put old new =
    (p : Pair) → IsShown new p → (IsShown old p × (struck ≢ Some p.key)) ⊎ (put ≡ Some p)

-- the key of each live record has its entry's set and tag
abbrev pub IsLogPlaced : LaneState → Type 0
IsLogPlaced lane = ArePlaced lane.log.shape lane.live

-- the key of each visible record of a set belongs to that set
abbrev pub AreSetsPlaced : LaneState → Type 0
AreSetsPlaced lane = AreOfTheirSets lane.log.shape.lanes lane.log.shape.sets lane.visible

-- the key of each record in flight belongs to its move's set
abbrev pub IsFlightPlaced : LaneState → Type 0
IsFlightPlaced lane = All (λ f. AreOfSet lane.log.shape f.moving) lane.flights

-- each record of a lane lies where its key belongs
pub record IsPlaced (lane : LaneState) : Type 0 where
  pub log : IsLogPlaced lane
  pub sets : AreSetsPlaced lane
  pub flight : IsFlightPlaced lane

-- a visible pair of the key has this value, and is live at the moment
pub record ShowsLive (key : List ℕ) (moment : ℕ) (lane : LaneState) (value : List ℕ) : Type 0 where
  pub expires : ℕ
  pub visible : IsVisible lane (record { key = key; value = timed value expires })
  pub live : IsTrue (is_live expires moment)

-- a hit is the value of a visible pair of the key that is live at the moment
abbrev pub TellsVisible : List ℕ → ℕ → LaneState → Answer → Type 0
TellsVisible key moment lane (Hit value tier) = ShowsLive key moment lane value
TellsVisible key moment lane (Miss cause) = Unit {0}
