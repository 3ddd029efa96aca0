-- A script's lane: what its commands go by, and the numbers, the history and the certificate of its calls.
use Rattle.std.specs.Prelude.{◌≡◌, ℕ, ◌+◌, ◌*◌, ◌<◌, List, [], ◌∷◌, ◌++◌, length, map, Option, slice_get, slice_index_or}
use Rattle.std.specs.List.{range_with_len}
use Rattle.record_pages.specs.declared.config.Config.{Config}
use Rattle.trace_file.specs.declared.act.Act.{Act}
use Rattle.trace_file.specs.declared.call.Call.{Call}
use Rattle.memory_cache.specs.MemoryList.{empty}
use Rattle.klog.specs.Log.{Shape, opening_log}
use Rattle.kset.specs.Sets.{opening_sets}
use Rattle.mover.specs.Lane.{LaneState, lane_of}
use Rattle.recorded_lane.specs.declared.noted.Noted.{Noted}
use Rattle.recorded_lane.specs.Lane.{Lane}

-- a lane of a script: the numbers that puts and moves go by, what it holds, and its calls so far, in order
pub record Opened : Type 0 where
  pub admit : ℕ
  pub threshold : ℕ
  pub lane : LaneState
  pub calls : List Noted

-- the pages of a device in memory
abbrev pub Pages : Type 0
Pages = List (List ℕ)

-- what a page of a device in memory holds
abbrev pub held_by : Pages → ℕ → Option (List ℕ)
held_by pages page = slice_get pages page

-- what the script sees of a recorded lane over a device in memory
abbrev pub seen_of : Lane Pages → Opened
seen_of l = record {
  admit = l.store.layout.admit;
  threshold = l.store.layout.threshold;
  lane = lane_of held_by l.store;
  calls = l.calls;
}

-- the numbers of a configuration that its log goes by
abbrev pub shape_asked : Config → Shape
shape_asked c = record {
  lanes = c.lanes;
  sets = c.sets;
  segments = c.segments;
  segment_pages = c.segment_pages;
  limit = c.entries;
}

-- The lane of a configuration before its first call: nothing in memory, in the log or in a set, and no move in flight.
abbrev pub empty_lane : Config → LaneState
empty_lane c = record {
  memory = empty c.memory;
  log = opening_log (shape_asked c);
  live = [];
  sets = opening_sets c.sets (8 * c.sets);
  visible = λ set. [];
  flights = [];
  moves = 0;
}

-- the lane that a configuration opens
abbrev pub opened_by : Config → Opened
opened_by c = record { admit = c.admit; threshold = c.threshold; lane = empty_lane c; calls = [] }

-- call number i of a script, from 0, has caller 0, start 3i + 1 and point 3i + 2
abbrev pub noted : ℕ → List ℕ → Act → Noted
noted i key act = record { caller = 0; start = 3 * i + 1; point = 3 * i + 2; key = key; act = act }

-- the script's lane with what it holds after a command that is no call of its history
abbrev pub with_lane : Opened → LaneState → Opened
with_lane o lane = record o { lane = lane }

-- the script's lane with what it holds after one more call
abbrev pub after_call : Opened → LaneState → List ℕ → Act → Opened
after_call o lane key act = record o { lane = lane; calls = o.calls ++ noted (length o.calls) key act ∷ [] }

-- the recorded calls have the numbers of a script's calls, in turn
abbrev pub HasStamps : List Noted → Type 0
HasStamps calls = (i : ℕ) (d : Noted) → i < length calls →
    let n = slice_index_or calls i d in (n.start ≡ 3 * i + 1) × (n.point ≡ 3 * i + 2) × (n.caller ≡ 0)

-- a recorded call of a script ends one after its point
abbrev pub ended : Noted → Call
ended n = record { caller = n.caller; start = n.start; end = n.point + 1; key = n.key; act = n.act }

-- the history of a script's calls
abbrev pub own_history : List Noted → List Call
own_history calls = map ended calls

-- the certificate of a script's calls: 0, 1, 2 and so on
abbrev pub own_certificate : List Noted → List ℕ
own_certificate calls = range_with_len 0 (length calls)

-- What is true of every lane of a script: its calls have the script's numbers, and it is the one lane of its configuration.
pub record IsOfScript (l : Lane Pages) : Type 0 where
  pub stamps : HasStamps l.calls
  pub one : l.store.layout.lanes ≡ 1
  pub first : l.lane ≡ 0
