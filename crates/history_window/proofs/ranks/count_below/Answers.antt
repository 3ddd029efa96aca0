use Rattle.std.proofs.Common.{ℕ, ltb, rules}
use Rattle.std.proofs.lemmas.List.Sorted.{IsPartitionPoint-from_clause, IsPartitionedBy-ltb}
use Rattle.certificate_finder.specs.Leaves.{itself}
use Rattle.history_window.proofs.ListLemmas.{split_below_point}
use Rattle.history_window.proofs.ranks.count_below.Goals as goal

pub returns : goal.returns
returns c =
    let point = IsPartitionPoint-from_clause (λ (x : ℕ). ltb (itself x) c.args.limit) _ _ c.partition_point.ensures.partitioned (IsPartitionedBy-ltb itself c.args.ranks.now c.args.limit c.requires) (λ a r q k. search rules) in
    split_below_point itself c.args.ranks.now c.args.limit c.partition_point.result c.partition_point.ensures.bound point.0 point.1
