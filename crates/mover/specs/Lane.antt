-- What a lane holds, as lists.
use Rattle.std.specs.Prelude.{ℕ, List, Option}
use Rattle.record_pages.specs.Recs.{Rec}
use Rattle.memory_cache.specs.MemoryList.{MemoryList}
use Rattle.klog_index.specs.declared.entry.Entry.{Entry}
use Rattle.klog.specs.Log.{LogState}
use Rattle.klog.specs.Shown.{live_on}
use Rattle.kset.specs.Sets.{SetsState}
use Rattle.kset.specs.Shown.{visible_in}
use Rattle.mover.specs.Flight.{Flight}
use Rattle.mover.specs.Store.{StoreState}

-- The pairs in memory; the log as memory sees it, and its live records, newest first; what is noted of the sets, and the
-- visible records of each in page order, each with its slot; the moves in flight, as they began; and how many
-- moves began.
pub record LaneState : Type 0 where
  pub memory : MemoryList
  pub log : LogState
  pub live : List (Entry × Rec)
  pub sets : SetsState
  pub visible : ℕ → List (ℕ × Rec)
  pub flights : List Flight
  pub moves : ℕ

-- the lane of a store, by what the device's pages are known to hold
abbrev pub lane_of : {D : Type 0} → (D → ℕ → Option (List ℕ)) → StoreState D → LaneState
lane_of held s = record {
  memory = s.memory;
  log = s.log;
  live = live_on (held s.device) s.log;
  sets = s.sets;
  visible = visible_in (held s.device) s.sets;
  flights = s.flights;
  moves = s.moves;
}
