use Rattle.std.proofs.Common.{ℕ, leb, rules}
use Rattle.std.proofs.lemmas.List.Sorted.{IsPartitionPoint-from_clause, IsPartitionedBy-leb}
use Rattle.certificate_finder.specs.Leaves.{itself}
use Rattle.history_window.proofs.ListLemmas.{split_from_point}
use Rattle.history_window.proofs.ranks.count_upto.Goals as goal

pub returns : goal.returns
returns c =
    let point = IsPartitionPoint-from_clause (λ (x : ℕ). leb (itself x) c.args.limit) _ _ c.partition_point.ensures.partitioned (IsPartitionedBy-leb itself c.args.ranks.now c.args.limit c.requires) (λ a r q k. search rules) in
    split_from_point itself c.args.ranks.now c.args.limit c.partition_point.result c.partition_point.ensures.bound point.0 point.1
