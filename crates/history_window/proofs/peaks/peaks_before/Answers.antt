use Rattle.std.proofs.Common.{ltb, rules}
use Rattle.std.proofs.lemmas.List.Sorted.{IsPartitionPoint-from_clause, IsPartitionedBy-ltb}
use Rattle.history_window.specs.declared.peak.Peak.{Peak}
use Rattle.history_window.specs.Peaks.{foot_of}
use Rattle.history_window.proofs.ListLemmas.{split_below_point}
use Rattle.history_window.proofs.peaks.peaks_before.Goals as goal

pub returns : goal.returns
returns c =
    let point = IsPartitionPoint-from_clause (λ (x : Peak). ltb (foot_of x) c.args.limit) _ _ c.partition_point.ensures.partitioned (IsPartitionedBy-ltb foot_of c.args.peaks.now c.args.limit c.requires) (λ a r q k. search rules) in
    split_below_point foot_of c.args.peaks.now c.args.limit c.partition_point.result c.partition_point.ensures.bound point.0 point.1
