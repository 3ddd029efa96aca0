-- What becomes of a copy that memory has no room for.
use Rattle.std.specs.Prelude.{ℕ, List, Bool, ◌||◌, nat_lt, if◌then◌else◌}
use Rattle.std.specs.List.{list_any}
use Rattle.record_pages.specs.Sizes.{object_size, room}
use Rattle.record_pages.specs.declared.pushed.Pushed.{Pushed}
use Rattle.record_pages.specs.declared.pushed.Pushed.TheVariants as pushed
use Rattle.set_hash.specs.declared.placed.Placed.{Placed}
use Rattle.memory_cache.specs.declared.pair.Pair.{Pair}
use Rattle.klog_index.specs.Entries.{has_tag}
use Rattle.klog.specs.Append.{entering}
use Rattle.klog.specs.Shown.{place_in}
use Rattle.kset.specs.Notes.{lets_show}
use Rattle.kset.specs.Sets.{notes_of}
use Rattle.mover.specs.declared.copy_fate.CopyFate.{CopyFate}
use Rattle.mover.specs.declared.copy_fate.CopyFate.TheVariants as fate
use Rattle.mover.specs.Lane.{LaneState}
use Rattle.mover.specs.Get.{Step}
use Rattle.mover.specs.Put.{append_step}

-- Flash may show the key of a place, as far as memory knows without reading a page: the log has an entry of its set and
-- tag, or its set's filter admits it, unstruck.
abbrev pub may_show_at : Placed → LaneState → Bool
may_show_at at lane =
    list_any (has_tag at.set at.tag) lane.log.entries || lets_show (notes_of lane.sets at.set) at.hash

-- flash may show a key
abbrev pub may_show : List ℕ → LaneState → Bool
may_show key lane = may_show_at (place_in lane.log.shape key) lane

-- what became of a copy, by what became of it as it was to enter the log; that nothing was to enter, or was declined, is never so
abbrev pub fate_of : Pushed → CopyFate
fate_of pushed.Logged = fate.Logged
fate_of pushed.Full = fate.Full
fate_of pushed.IndexFull = fate.IndexFull
fate_of pushed.Nobody = fate.Known
fate_of pushed.Declined = fate.Known

-- the same of a step
abbrev pub fate_step : Step Pushed → Step CopyFate
fate_step step = record { reply = fate_of step.reply; lane = step.lane }

-- A copy is put back: it is dropped if flash may show its key, or if it fits on no page; else it is to enter the log.
abbrev pub put_back_step : ℕ → Pair → LaneState → Step CopyFate
put_back_step size p lane =
    if may_show p.key lane then record { reply = fate.Known; lane = lane }
    else (if nat_lt (room size) (object_size p.key p.value.value) then record { reply = fate.TooLarge; lane = lane }
    else fate_step (append_step size (entering p.key p.value) lane))
