use Rattle.std.proofs.Common.{rules}
use Rattle.std.proofs.lemmas.List.Sorted.{IsNonDecreasingBy-from_sort_by_key}
use Rattle.certificate_finder.specs.Leaves.{itself}
use Rattle.history_window.proofs.ranks.sort_ranks.Goals as goal

pub returns : goal.returns
returns c = record {
  moved = c.sort_unstable_by_key.ensures.permutation;
  rise = IsNonDecreasingBy-from_sort_by_key itself _ c.sort_unstable_by_key.ensures.sorted (λ a r q k. search rules);
}
