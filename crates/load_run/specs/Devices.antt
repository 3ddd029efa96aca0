-- The devices of a cache.
use Rattle.std.specs.Prelude.{◌≡◌, ◌≤◌, ℕ, List, All, length}
use Rattle.record_pages.specs.Asked.{layout_pages}
use Rattle.record_pages.specs.declared.layout.Layout.{Layout}

-- there is a device for each lane of a layout, with pages enough
pub record AreDevicesFor {D : Type 0} (pages : D → ℕ) (layout : Layout) (devices : List D) : Type 0 where
  pub each : length devices ≡ layout.lanes
  pub room : All (λ d. layout_pages layout ≤ pages d) devices
