use Rattle.std.proofs.Common.{rules}
use Rattle.std.proofs.lemmas.List.Sorted.{IsNonDecreasingBy-from_sort_by_key}
use Rattle.certificate_finder.specs.Leaves.{itself}
use Rattle.certificate_finder.proofs.LeafLemmas.{are_ends}
use Rattle.certificate_finder.proofs.leaves.ends_of.Goals as goal

pub returns : goal.returns
returns c = are_ends c.args.puts.now c.in_ok-ends.ends.items _ (search rules) c.sort_unstable_by_key.ensures.permutation (IsNonDecreasingBy-from_sort_by_key itself _ c.sort_unstable_by_key.ensures.sorted (λ a r q k. search rules))
