use Rattle.std.proofs.Common.{length, rules, subst}
use Rattle.std.proofs.lemmas.List.Sorted.{IsNonDecreasingBy-from_sort_by_key}
use Rattle.history_window.specs.Peaks.{AreTops, foot_of}
use Rattle.history_window.proofs.peaks.Peaks.of.Goals as goal

pub returns : goal.returns
returns c = record {
  moved = c.sort_unstable_by_key.ensures.permutation;
  raised = record {
    rise = IsNonDecreasingBy-from_sort_by_key foot_of _ c.sort_unstable_by_key.ensures.sorted (λ a r q k. search rules);
    tops = subst (λ items. AreTops items (length items) c.in_ok-tops.tops.items) c.as_slice.ensures.value c.in_ok-tops.ensures;
  };
}
