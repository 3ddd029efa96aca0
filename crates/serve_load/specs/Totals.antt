-- What lanes tell together.
use Rattle.std.specs.Prelude.{◌≡◌, ℕ, ◌+◌, ◌%◌, ◌^◌, List, [], ◌∷◌, fold}
use Rattle.service_lane.specs.Counters.{together}
use Rattle.serve_load.specs.declared.lane_end.LaneEnd.{LaneEnd}

-- two numbers together, modulo 2^64
abbrev pub added : ℕ → ℕ → ℕ
added m n = (m + n) % 2 ^ 64

-- what two lanes tell together
abbrev pub joined : LaneEnd → LaneEnd → LaneEnd
joined a b = record {
  counts = together a.counts b.counts;
  memory_objects = added a.memory_objects b.memory_objects;
  log_records = added a.log_records b.log_records;
}

-- what lanes tell together, of which there is one at least
abbrev pub IsTotal : List LaneEnd → LaneEnd → Type 0
IsTotal [] total = ⊥
IsTotal (first ∷ others) total = total ≡ fold joined first others
