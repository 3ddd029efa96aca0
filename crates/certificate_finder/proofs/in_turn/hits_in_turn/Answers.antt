use Rattle.std.proofs.Common.{rules}
use Rattle.std.proofs.lemmas.List.Sorted.{IsNonDecreasingBy-from_sort_by_key}
use Rattle.certificate_finder.specs.declared.ranked.Ranked.{Ranked}
use Rattle.certificate_finder.proofs.InTurnLemmas.{are_turned}
use Rattle.certificate_finder.proofs.in_turn.hits_in_turn.Goals as goal

pub returns : goal.returns
returns c = are_turned c.args.stamp c.args.steps.now c.args.positions.now c.in_ok-hits.hits.items _ c.requires.rise c.in_ok-hits.ensures c.sort_unstable_by_key.ensures.permutation (IsNonDecreasingBy-from_sort_by_key (λ (r : Ranked). r.rank) _ c.sort_unstable_by_key.ensures.sorted (λ a r q k. search rules))
