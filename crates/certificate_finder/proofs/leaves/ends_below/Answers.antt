use Rattle.std.proofs.Common.{ℕ, ltb, rules}
use Rattle.std.proofs.lemmas.List.Sorted.{IsPartitionPoint-from_clause, IsPartitionedBy-ltb}
use Rattle.certificate_finder.specs.Leaves.{itself}
use Rattle.certificate_finder.proofs.LeafLemmas.{below_from_point}
use Rattle.certificate_finder.proofs.leaves.ends_below.Goals as goal

pub returns : goal.returns
returns c =
    let point = IsPartitionPoint-from_clause (λ (x : ℕ). ltb (itself x) c.args.rank) _ _ c.partition_point.ensures.partitioned (IsPartitionedBy-ltb itself c.args.ends.now c.args.rank c.requires) (λ a r q k. search rules) in
    below_from_point c.args.ends.now c.args.rank c.partition_point.result c.partition_point.ensures.bound point.0 point.1
