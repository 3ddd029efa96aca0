-- Laws on the shape for what is wanted.
use Rattle.std.proofs.Common.{◌≡◌, ◌*◌, ◌≤◌, min, arith}
use Rattle.cache_sizes.specs.declared.wanted.Wanted.{Wanted}
use Rattle.cache_sizes.specs.declared.shape.Shape.{Shape}
use Rattle.cache_sizes.specs.Memory.{layer_bytes_of}
use Rattle.cache_sizes.specs.Wanting.{all_lanes_for, fixed_bytes_for, least_memory_for}
use Rattle.cache_sizes.specs.Shapes.{HasPartsFor, all_lanes_of, fixed_bytes_of, memory_bytes_of}

-- it has the lanes that are wanted
pub all_lanes_are : (w : Wanted) (s : Shape) → HasPartsFor w s → all_lanes_of s ≡ all_lanes_for w
unfolding all_lanes_for
all_lanes_are w s parts = cc

-- it takes from the start what these take
pub fixed_bytes_are : (w : Wanted) (s : Shape) → HasPartsFor w s → fixed_bytes_of s ≡ fixed_bytes_for w
unfolding fixed_bytes_for
fixed_bytes_are w s parts = let lanes = all_lanes_are w s parts in cc

-- with one object in memory it takes the least memory
pub least_memory_is : (w : Wanted) (s : Shape) → w.object_bytes ≤ 2303 → HasPartsFor w s → s.memory ≡ 1 → memory_bytes_of s w.object_bytes ≡ least_memory_for w
least_memory_is w s small parts one =
    let lanes = all_lanes_are w s parts in
    let fixed = fixed_bytes_are w s parts in
    let possible : min w.object_bytes 2303 ≡ w.object_bytes = omega arith in
    let layer : layer_bytes_of (s.shards * s.lanes) (min w.object_bytes 2303) ≡ layer_bytes_of (all_lanes_for w) w.object_bytes = cc in
    let times : s.memory * layer_bytes_of (s.shards * s.lanes) (min w.object_bytes 2303) ≡ 1 * layer_bytes_of (all_lanes_for w) w.object_bytes = cc in
    omega arith
