use Rattle.std.proofs.Common.{ltb, rules}
use Rattle.std.proofs.lemmas.List.Sorted.{IsPartitionPoint-from_clause, IsPartitionedBy-ltb}
use Rattle.certificate_finder.specs.declared.zone.Zone.{Zone}
use Rattle.certificate_finder.specs.Unreading.{end_rank}
use Rattle.certificate_finder.proofs.Ranking.{split_below_point}
use Rattle.certificate_finder.proofs.by_ends.zones_below.Goals as goal

pub returns : goal.returns
returns c =
    let point = IsPartitionPoint-from_clause (λ (x : Zone). ltb (end_rank x) c.args.limit) _ _ c.partition_point.ensures.partitioned (IsPartitionedBy-ltb end_rank c.args.zones.now c.args.limit c.requires) (λ a r q k. search rules) in
    split_below_point end_rank c.args.zones.now c.args.limit c.partition_point.result c.partition_point.ensures.bound point.0 point.1
