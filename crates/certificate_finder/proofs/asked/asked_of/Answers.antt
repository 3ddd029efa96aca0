use Rattle.std.proofs.Common.{rules}
use Rattle.std.proofs.lemmas.List.Sorted.{IsNonDecreasingBy-from_sort_by_key}
use Rattle.certificate_finder.specs.declared.ranked.Ranked.{Ranked}
use Rattle.certificate_finder.proofs.AskLemmas.{are_asked}
use Rattle.certificate_finder.proofs.asked.asked_of.Goals as goal

pub returns : goal.returns
returns c = are_asked c.args.steps.now c.in_ok-asked.asked.items _ c.in_ok-asked.ensures c.sort_unstable_by_key.ensures.permutation (IsNonDecreasingBy-from_sort_by_key (λ (hit : Ranked). hit.rank) _ c.sort_unstable_by_key.ensures.sorted (λ a r q k. search rules))
