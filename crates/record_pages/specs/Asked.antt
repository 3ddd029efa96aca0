-- What a layout has of the configuration that it was checked from, and the pages that it asks for.
use Rattle.std.specs.Prelude.{◌≡◌, ◌+◌, ◌*◌, ℕ}
use Rattle.record_pages.specs.declared.config.Config.{Config}
use Rattle.record_pages.specs.declared.layout.Layout.{Layout}

-- the layout has the configuration's numbers
pub record HasNumbersOf (layout : Layout) (config : Config) : Type 0 where
  pub lanes : layout.lanes ≡ config.lanes
  pub sets : layout.sets ≡ config.sets
  pub memory : layout.memory ≡ config.memory
  pub segments : layout.segments ≡ config.segments
  pub segment_pages : layout.segment_pages ≡ config.segment_pages
  pub entries : layout.entries ≡ config.entries
  pub threshold : layout.threshold ≡ config.threshold
  pub admit : layout.admit ≡ config.admit

-- the pages of a lane's device: those of its sets and of its log
abbrev pub layout_pages : Layout → ℕ
layout_pages layout = layout.sets + layout.segments * layout.segment_pages
