-- Which lane of its cache a lane is, and which keys are another's.
use Rattle.std.specs.Prelude.{ℕ, ◌*◌, ◌%◌, List, length, Bool, not, ◌&&◌, ◌==◌, nat_le}
use Rattle.service_lane.specs.Leases.{hash_by}
use Rattle.c_lane.specs.declared.home.LaneHome.{LaneHome}
use Rattle.c_lane.specs.declared.lane_shape.LaneShape.{LaneShape}
use Rattle.c_lane.specs.declared.seed.Seed.{Seed}
use Rattle.c_lane.specs.Placing.{seed_of}

-- how many lanes a cache of a shape has
abbrev pub lanes_of : LaneShape → ℕ
lanes_of shape = shape.shards * shape.lanes

-- the lane of a number
abbrev pub home_of : LaneShape → Seed → ℕ → LaneHome
home_of shape seed number = record { seed = seed_of seed; lanes = lanes_of shape; number = number }

-- whether bytes are a key
abbrev pub is_key : List ℕ → Bool
is_key bytes = not (length bytes == 0) && nat_le (length bytes) 255

-- whether the lane of bytes is this one
abbrev pub is_own : LaneHome → List ℕ → Bool
is_own home key = not (home.lanes == 0) && (hash_by home.seed key % home.lanes == home.number)

-- whether bytes are a key, and its lane is another
abbrev pub is_foreign : LaneHome → List ℕ → Bool
is_foreign home key = is_key key && not (is_own home key)
