-- The log as memory sees it.
use Rattle.std.specs.Prelude.{ℕ, List, [], Bool, false}
use Rattle.record_pages.specs.Recs.{Rec}
use Rattle.record_pages.specs.declared.layout.Layout.{Layout}
use Rattle.klog_index.specs.declared.entry.Entry.{Entry}
use Rattle.klog.specs.Buffer.{Buffer}

-- the numbers of a layout that a log goes by: lanes and sets, segments on the device, pages of a segment, most live records
pub record Shape : Type 0 where
  pub lanes : ℕ
  pub sets : ℕ
  pub segments : ℕ
  pub segment_pages : ℕ
  pub limit : ℕ

-- the shape of a layout
abbrev pub shape_of : Layout → Shape
shape_of l = record { lanes = l.lanes; sets = l.sets; segments = l.segments; segment_pages = l.segment_pages; limit = l.entries }

-- What memory holds of a log. The entries stand newest first. The segments on the device have the numbers from first
-- on; then comes the one that is flushed, if there is one, with the number of its pages that were written or lost;
-- and then the one that is filled.
pub record LogState : Type 0 where
  pub shape : Shape
  pub entries : List Entry
  pub first : ℕ
  pub stored : ℕ
  pub is_flushing : Bool
  pub done : ℕ
  pub flushing : List (List Rec)
  pub filling : List (List Rec)

-- the log with other entries
abbrev pub with_list : LogState → List Entry → LogState
with_list k es = record k { entries = es }

-- the segment that is filled, as a buffer
abbrev pub filling_buffer : LogState → Buffer
filling_buffer k = record { room = k.shape.segment_pages; pages = k.filling }

-- a new log: nothing on the device, nothing flushed, an empty segment with number 0 to be filled
abbrev pub opening_log : Shape → LogState
opening_log shape = record { shape = shape; entries = []; first = 0; stored = 0; is_flushing = false; done = 0; flushing = []; filling = [] }
