-- A store: a device, and the tiers of a lane that share it.
use Rattle.std.specs.Prelude.{◌≡◌, ◌<◌, ◌≤◌, ◌+◌, ◌*◌, ◌^◌, ℕ, List, [], Option, Bool, IsTrue, All}
use Rattle.page_device.specs.Device.{faults_after}
use Rattle.record_pages.specs.Sizes.{IsPageSize, object_size, room}
use Rattle.record_pages.specs.declared.layout.Layout.{Layout}
use Rattle.memory_cache.specs.declared.pair.Pair.{Pair}
use Rattle.record_pages.specs.declared.config.Config.{Config}
use Rattle.memory_cache.specs.MemoryList.{MemoryList, empty}
use Rattle.klog.specs.Log.{LogState, shape_of, opening_log}
use Rattle.klog.specs.Names.{HasRoom}
use Rattle.klog.specs.Shown.{IsSpelledOn}
use Rattle.kset.specs.Sets.{SetsState, set_count, opening_sets}
use Rattle.kset.specs.Pages.{AreSpelledOn}
use Rattle.kset.specs.Shown.{visible_in}
use Rattle.kset.specs.Laws.{AreOfTheirSets}
use Rattle.mover.specs.Flight.{Flight, AreFlights, AreOfSet}

-- a layout, a device, the three tiers as memory sees them, the moves in flight, and how many moves began
pub record StoreState (D : Type 0) : Type 0 where
  pub layout : Layout
  pub device : D
  pub memory : MemoryList
  pub log : LogState
  pub sets : SetsState
  pub flights : List Flight
  pub moves : ℕ

-- the most moves that a store begins
abbrev pub most_moves : ℕ
most_moves = 2 ^ 62

-- an object fits on a page of this many bytes
abbrev pub IsSmall : ℕ → Pair → Type 0
IsSmall size p = object_size p.key p.value.value ≤ room size

-- What is true of every store. Its tiers have the layout's numbers and the device has their pages; memory has room for one
-- object at least, and each object there fits on a page; the moves in flight are this store's, of different sets; and if the
-- device is honest, each live and each visible record is on a known page or in a buffer, and each visible record and each
-- record in flight is in the set of its key.
pub record IsStore {D : Type 0} (size : ℕ) (pages : D → ℕ) (honest : D → Bool) (held : D → ℕ → Option (List ℕ)) (s : StoreState D) : Type 0 where
  pub page_size : IsPageSize size
  pub shape : s.log.shape ≡ shape_of s.layout
  pub counted : set_count s.sets ≡ s.layout.sets
  pub capacity : s.memory.capacity ≡ s.layout.memory
  pub roomy : 1 ≤ s.memory.capacity
  pub small : All (IsSmall size) s.memory.pairs
  pub room : HasRoom (pages s.device) s.log
  pub numbered : s.moves ≤ most_moves
  pub flights : AreFlights s.log.shape s.moves s.flights
  pub log_spelled : IsTrue (honest s.device) → IsSpelledOn size (held s.device) s.log
  pub sets_spelled : IsTrue (honest s.device) → AreSpelledOn size (held s.device) s.sets
  pub sets_placed : IsTrue (honest s.device) → AreOfTheirSets s.log.shape.lanes s.log.shape.sets (visible_in (held s.device) s.sets)
  pub flights_placed : IsTrue (honest s.device) → All (λ f. AreOfSet s.log.shape f.moving) s.flights

-- the device has fewer pages than a configuration asks for
abbrev pub IsTooSmall : Config → ℕ → Type 0
IsTooSmall c count = count < c.sets + c.segments * c.segment_pages

-- a store that was just opened, with room for this many strikes: nothing in memory, in the log or in a set
abbrev pub opening_with : {D : Type 0} → ℕ → Layout → D → StoreState D
opening_with strikes layout device = record {
  layout = layout;
  device = device;
  memory = empty layout.memory;
  log = opening_log (shape_of layout);
  sets = opening_sets layout.sets strikes;
  flights = [];
  moves = 0;
}

-- with room for eight strikes a set, so that no set is forgotten for want of it
abbrev pub opening : {D : Type 0} → Layout → D → StoreState D
opening layout device = opening_with (8 * layout.sets) layout device

-- a call that writes no page, and in which the device may have failed once
pub record OnlyReads {D : Type 0} (honest : D → Bool) (failures : D → ℕ) (held : D → ℕ → Option (List ℕ)) (old : StoreState D) (failed : Bool) (new : StoreState D) : Type 0 where
  pub layout : new.layout ≡ old.layout
  pub honesty : honest new.device ≡ honest old.device
  pub failed_once : failures new.device ≡ faults_after (failures old.device) failed
  pub same : IsTrue (honest old.device) → held new.device ≡ held old.device
