-- A log together with the device that its segments lie on.
use Rattle.std.specs.Prelude.{◌≡◌, ℕ, List, Option, Bool, IsTrue}
use Rattle.record_pages.specs.declared.layout.Layout.{Layout}
use Rattle.klog.specs.Log.{LogState, shape_of}
use Rattle.klog.specs.Names.{HasRoom}
use Rattle.klog.specs.Shown.{IsSpelledOn}

-- a device, and the log on it
pub record OwnerState (D : Type 0) : Type 0 where
  pub device : D
  pub log : LogState

-- The log has the layout's numbers, the device has its pages, and if it is honest each live record is known.
pub record IsOwner {D : Type 0} (size : ℕ) (layout : Layout) (pages : D → ℕ) (honest : D → Bool) (held : D → ℕ → Option (List ℕ)) (o : OwnerState D) : Type 0 where
  pub shape : o.log.shape ≡ shape_of layout
  pub room : HasRoom (pages o.device) o.log
  pub spelled : IsTrue (honest o.device) → IsSpelledOn size (held o.device) o.log
