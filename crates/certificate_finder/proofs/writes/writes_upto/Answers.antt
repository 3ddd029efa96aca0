use Rattle.std.proofs.Common.{rules}
use Rattle.std.proofs.Common.{leb}
use Rattle.std.proofs.lemmas.List.Sorted.{IsPartitionPoint-from_clause, IsPartitionedBy-leb}
use Rattle.certificate_finder.specs.declared.write.Write.{Write}
use Rattle.certificate_finder.specs.Writing.{write_rank}
use Rattle.certificate_finder.proofs.Ranking.{split_from_point}
use Rattle.certificate_finder.proofs.writes.writes_upto.Goals as goal

pub returns : goal.returns
returns c =
    let point = IsPartitionPoint-from_clause (λ (x : Write). leb (write_rank x) c.args.limit) _ _ c.partition_point.ensures.partitioned (IsPartitionedBy-leb write_rank c.args.writes.now c.args.limit c.requires) (λ a r q k. search rules) in
    split_from_point write_rank c.args.writes.now c.args.limit c.partition_point.result c.partition_point.ensures.bound point.0 point.1
