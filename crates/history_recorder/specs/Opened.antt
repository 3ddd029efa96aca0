-- Worlds that were just opened.
use Rattle.std.specs.Prelude.{◌≡◌, ◌≢◌, ℕ, ◌≤◌, List, [], map, length, All, Any, Option, Some, None, Bool, slice_get}
use Rattle.std.specs.Global.{Box}
use Rattle.std.specs.Box.{box_value}
use Rattle.record_pages.specs.declared.config.Config.{Config}
use Rattle.record_pages.specs.declared.layout.Layout.{Layout}
use Rattle.record_pages.specs.Sizes.{IsPageSize}
use Rattle.record_pages.specs.Table.{first_faulty}
use Rattle.mover.specs.Store.{opening, IsTooSmall}
use Rattle.mover.specs.Laws.{opening_lane as opening_state}
use Rattle.recorded_lane.specs.Lane.{Lane, IsRecorded}
use Rattle.history_recorder.specs.declared.open_world_fault.OpenWorldFault.{OpenWorldFault}
use Rattle.history_recorder.specs.declared.open_world_fault.OpenWorldFault.TheVariants as faults
use Rattle.history_recorder.specs.Books.{Books, opening_books}
use Rattle.history_recorder.specs.World.{World}
use Rattle.history_recorder.specs.Game.{unboxed}

-- A world that was just opened: the numbers of its lanes, the device of each, and how many callers it has.
pub record Opened (D : Type 0) : Type 0 where
  pub layout : Layout
  pub devices : List D
  pub callers : ℕ

-- its books: nothing happened yet
abbrev pub books_of : {D : Type 0} → Opened D → Books
books_of w = opening_books w.layout.lanes w.callers

-- The world of a run as it begins: nothing happened yet, and each lane is that of a store that was just opened over a device
-- that holds these pages.
abbrev pub beginning : Layout → ℕ → List (ℕ → Option (List ℕ)) → World
beginning layout callers pages = record {
  books = opening_books layout.lanes callers;
  states = map (opening_state layout) pages;
}

-- as the world of a run, over what each device holds
abbrev pub opening_world : {D : Type 0} → (D → ℕ → Option (List ℕ)) → Opened D → World
opening_world held w = beginning w.layout w.callers (map held w.devices)

-- a lane with this number that was just opened over its device
abbrev pub opening_lane : {D : Type 0} → Layout → ℕ → D → Lane D
opening_lane layout number device = record { store = opening layout device; lane = number; calls = [] }

-- the devices of lanes
abbrev pub devices_of : {D : Type 0} → List (Box (Lane D)) → List D
devices_of {D} boxes = map (λ (b : Box (Lane D)). (box_value b).store.device) boxes

-- lanes were just opened, the one with each number over its device
pub record AreOpened {D : Type 0} (honest : D → Bool) (held : D → ℕ → Option (List ℕ)) (layout : Layout) (lanes : List (Lane D)) : Type 0 where
  pub each : (number : ℕ) (lane : Lane D) → slice_get lanes number ≡ Some lane → lane ≡ opening_lane layout number lane.store.device
  pub recorded : All (IsRecorded honest held) lanes

-- this many of the lanes of a layout were opened, over these devices
pub record AreOpenedOver {D : Type 0} (honest : D → Bool) (held : D → ℕ → Option (List ℕ)) (layout : Layout) (number : ℕ) (devices : List D) (boxes : List (Box (Lane D))) : Type 0 where
  pub over : devices_of boxes ≡ devices
  pub many : number ≡ length boxes
  pub opened : AreOpened honest held layout (unboxed boxes)

-- the lanes of a world: all of its layout
pub record AreTheLanes {D : Type 0} (honest : D → Bool) (held : D → ℕ → Option (List ℕ)) (layout : Layout) (lanes : List (Lane D)) : Type 0 where
  pub all : length lanes ≡ layout.lanes
  pub opened : AreOpened honest held layout lanes

-- a world can be opened so, memory aside
pub record CanOpen (size : ℕ) (config : Config) (pages : List ℕ) (callers : ℕ) : Type 0 where
  pub numbers : first_faulty config ≡ None
  pub some_callers : 1 ≤ callers
  pub one_each : length pages ≡ config.lanes
  pub page_size : IsPageSize size
  pub large : ¬ Any (IsTooSmall config) pages

-- When each refusal comes, over devices of this many pages: the first of these tests that fails; want of memory after all.
abbrev pub RefusesWorld : ℕ → Config → List ℕ → ℕ → OpenWorldFault → Type 0
RefusesWorld size config pages callers (faults.ConfigFault field) = first_faulty config ≡ Some field
RefusesWorld size config pages callers faults.NoCallers = (first_faulty config ≡ None) × (callers ≡ 0)
RefusesWorld size config pages callers faults.DeviceCount =
    (first_faulty config ≡ None) × (1 ≤ callers) × (length pages ≢ config.lanes)
RefusesWorld size config pages callers faults.WrongPage =
    (first_faulty config ≡ None) × (1 ≤ callers) × (length pages ≡ config.lanes) × ¬ IsPageSize size
RefusesWorld size config pages callers faults.DeviceTooSmall =
    (first_faulty config ≡ None) × (1 ≤ callers) × (length pages ≡ config.lanes) × IsPageSize size × Any (IsTooSmall config) pages
RefusesWorld size config pages callers faults.OutOfMemory = CanOpen size config pages callers
