use Rattle.std.proofs.Common.{rules}
use Rattle.std.proofs.lemmas.List.Sorted.{IsNonDecreasingBy-from_sort_by_key}
use Rattle.certificate_finder.specs.Leaves.{itself}
use Rattle.certificate_finder.proofs.WarmLemmas.{are_pairs}
use Rattle.certificate_finder.proofs.unput.put_pairs_of.Goals as goal

pub returns : goal.returns
returns c = are_pairs c.args.steps.now c.in_ok-pairs.pairs.items _ c.in_ok-pairs.ensures c.sort_unstable_by_key.ensures.permutation (IsNonDecreasingBy-from_sort_by_key itself _ c.sort_unstable_by_key.ensures.sorted (λ a r q k. search rules))
