-- The counters of a lane as C reads them.
use Rattle.std.specs.Prelude.{ℕ, ◌+◌, ◌-◌, ◌%◌, ◌^◌, [], ◌∷◌, length}
use Rattle.klog.specs.declared.log_usage.LogUsage.{LogUsage}
use Rattle.klog.specs.Usage.{usage_of}
use Rattle.page_device.specs.declared.device_counts.DeviceCounts.{DeviceCounts}
use Rattle.service_lane.specs.declared.counter.Counter.TheVariants as counter
use Rattle.service_lane.specs.declared.counts.Counts.{Counts}
use Rattle.service_lane.specs.Counters.{number}
use Rattle.c_lane.specs.declared.counters.Counters.{Counters}
use Rattle.c_lane.specs.Lane.{LaneState}

-- The counters, by what the lane counts, what its device counts, how full its log is, and how many objects are in memory. Their order
-- is that of the names in C: hits by tier; misses by cause, of which `unreadable` are those by a fault; puts; removals; leases; fills;
-- pairs that left memory; pages of the log and of sets that were written; pages that were read; what was lost; what moves did; steps of
-- upkeep, those in help aside; those in help; moves that were refused memory; bytes; what there is now; hits of copies; objects that were
-- brought back; and copies that were dropped, since flash may have their object.
abbrev pub counters_with : Counts → DeviceCounts → LogUsage → ℕ → Counters
counters_with counts device usage memory_objects = record {
  numbers =
      number counter.MemoryHits counts
      ∷ number counter.LogHits counts
      ∷ number counter.SetHits counts
      ∷ number counter.Absent counts
      ∷ number counter.Expired counts
      ∷ number counter.Faults counts
      ∷ number counter.Damaged counts
      ∷ number counter.PutsStored counts
      ∷ number counter.Removals counts
      ∷ number counter.LeasesGiven counts
      ∷ number counter.FillsStored counts
      ∷ number counter.FillsStale counts
      ∷ number counter.Declined counts
      ∷ number counter.Logged counts
      ∷ number counter.LogFull counts
      ∷ number counter.IndexFull counts
      ∷ number counter.PagesWritten counts
      ∷ number counter.SetsWritten counts
      ∷ device.pages_read
      ∷ number counter.PagesLost counts
      ∷ number counter.SetsForgotten counts
      ∷ number counter.Readmitted counts
      ∷ number counter.Dropped counts
      ∷ number counter.SegmentsFreed counts
      ∷ (number counter.UpkeepSteps counts + (2 ^ 64 - number counter.StepsInHelp counts)) % 2 ^ 64
      ∷ number counter.StepsInHelp counts
      ∷ number counter.MovesOutOfMemory counts
      ∷ (number counter.PutsBytes counts + number counter.FillsBytes counts) % 2 ^ 64
      ∷ memory_objects
      ∷ usage.live
      ∷ (usage.segments - usage.free_segments)
      ∷ number counter.CopyHits counts
      ∷ number counter.BroughtBack counts
      ∷ number counter.PushedCopies counts
      ∷ [];
}

-- the counters of a lane
abbrev pub counters_of : {D : Type 0} → LaneState D → Counters
counters_of lane =
    let s = lane.serving in
    counters_with s.counts s.store.device.counts (usage_of s.store.log) (length s.store.memory.pairs)
