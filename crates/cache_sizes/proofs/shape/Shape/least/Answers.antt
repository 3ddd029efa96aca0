use Rattle.std.proofs.Common.{arith}
use Rattle.std.proofs.lemmas.Nat.{mul-le}
use Rattle.cache_sizes.specs.Wanting.{all_lanes_for, lane_pages_for}
use Rattle.cache_sizes.proofs.DividingLaws.{few_lanes, lanes_have_pages}
use Rattle.cache_sizes.proofs.shape.Shape.least.Goals as goal

pub of-lane-requires : goal.of-lane-requires
of-lane-requires c =
    lanes_have_pages _ c.lanes_wanted-all_lanes.result _ (omega arith)
    c.lanes_wanted-all_lanes.ensures.least c.lanes_wanted-all_lanes.ensures.wide
    (omega (arith, mul-le 1 1 _ _ c.shards_of-shards.ensures.least c.shard_lanes_of-lanes.ensures.least))
    (grind (arith, few_lanes c.lanes_wanted-all_lanes.result c.lanes_wanted-all_lanes.ensures.least))

pub returns-clause-parts : goal.returns-clause-parts
unfolding lane_pages_for all_lanes_for
returns-clause-parts c = record {
  shards = cc;
  lanes = cc;
  sets = cc;
  segments = cc;
  segment_pages = cc;
  entries = cc;
  lease_slots = cc;
}
