-- What a log keeps on any device.
use Rattle.std.specs.Prelude.{◌≡◌, ◌⊎◌, ◌+◌, ◌<◌, ◌≤◌, ◌^◌, List, length, true, All, AllPairs, IsSome}
use Rattle.klog_index.specs.declared.entry.Entry.{Entry}
use Rattle.klog_index.specs.declared.place.Place.{Place}
use Rattle.klog_index.specs.First.{IsBefore}
use Rattle.klog.specs.Buffer.{record_in}
use Rattle.klog.specs.Log.{LogState}
use Rattle.klog.specs.Names.{names, number_of, segment_of, filled_number}

-- an entry is of a set of the lane, and names a page of a segment that is held; in the segment that is filled its record is there
pub record IsHeld (k : LogState) (e : Entry) : Type 0 where
  pub set : e.set < k.shape.sets
  pub name : e.place.segment < names k
  pub page : e.place.page < k.shape.segment_pages
  pub segment : segment_of k e ≤ filled_number k
  pub filled : segment_of k e ≡ filled_number k → IsSome (record_in k.filling e.place.page e.place.slot)

-- a place lies after another in the log: its segment has the greater number, or it comes later in the same one, by page, then slot
abbrev pub IsBehind : LogState → Place → Place → Type 0
IsBehind k p q =
    (number_of k q.segment < number_of k p.segment) ⊎ ((number_of k q.segment ≡ number_of k p.segment) × IsBefore q p)

-- entries stand newest first: each lies after those that follow it
abbrev pub AreOrdered : LogState → List Entry → Type 0
AreOrdered k es = AllPairs (λ a b. IsBehind k a.place b.place) es

-- what a log keeps on any device
pub record IsLog (k : LogState) : Type 0 where
  pub some_sets : 0 < k.shape.sets
  pub few_sets : k.shape.sets ≤ 65536
  pub some_segments : 0 < k.shape.segments
  pub few_segments : k.shape.segments ≤ 256
  pub some_pages : 0 < k.shape.segment_pages
  pub few_pages : k.shape.segment_pages ≤ 64
  pub held : All (IsHeld k) k.entries
  pub ordered : AreOrdered k k.entries
  pub few_entries : length k.entries ≤ k.shape.limit
  pub stored_fits : k.stored ≤ k.shape.segments
  pub filling_fits : length k.filling ≤ k.shape.segment_pages
  pub flushing_fits : length k.flushing ≤ k.shape.segment_pages
  pub numbers : filled_number k ≤ 2 ^ 62 + 1
  pub numbered : 0 < length k.filling → filled_number k ≤ 2 ^ 62
  pub flushing_left : k.is_flushing ≡ true → k.done < length k.flushing
  pub flushing_free : k.is_flushing ≡ true → 0 < k.done → k.stored < k.shape.segments
