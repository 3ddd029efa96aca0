use Rattle.std.proofs.Common.{arith}
use Rattle.cache_sizes.proofs.FaultLaws.{first_is_range, first_is_memory, none_is_first}
use Rattle.cache_sizes.proofs.ShapeLaws.{least_memory_is, fixed_bytes_are, all_lanes_are}
use Rattle.cache_sizes.proofs.shape.Shape.of.Goals as goal

pub returns-in-Some-clause-outcome : goal.returns-in-Some-clause-outcome
returns-in-Some-clause-outcome c = first_is_range c.args.wanted.now _ cc

pub returns-then-wanted-memory_bytes-clause-outcome : goal.returns-then-wanted-memory_bytes-clause-outcome
returns-then-wanted-memory_bytes-clause-outcome c =
    let w = c.args.wanted.now in
    let least = c.least-shape in
    let need = least_memory_is w least.result c.in_default.ensures.ranges.object_most least.ensures.parts least.ensures.one in
    first_is_memory w (cc) (omega arith)

pub returns-clause-outcome : goal.returns-clause-outcome
returns-clause-outcome c =
    let w = c.args.wanted.now in
    let least = c.least-shape in
    let p = least.ensures.parts in
    let need = least_memory_is w least.result c.in_default.ensures.ranges.object_most p least.ensures.one in
    let fixed = fixed_bytes_are w least.result p in
    let lanes = all_lanes_are w least.result p in (
      none_is_first w (cc) (omega arith),
      record {
        parts = record {
          shards = p.shards;
          lanes = p.lanes;
          sets = p.sets;
          segments = p.segments;
          segment_pages = p.segment_pages;
          entries = p.entries;
          lease_slots = p.lease_slots;
        };
        memory = cc;
      },
    )
