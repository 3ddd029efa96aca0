use Rattle.std.proofs.Common.{rules}
use Rattle.std.proofs.lemmas.List.Sorted.{IsNonDecreasingBy-from_sort_by_key}
use Rattle.certificate_finder.specs.declared.ranked.Ranked.{Ranked}
use Rattle.certificate_finder.proofs.SpotLemmas.{is_line}
use Rattle.certificate_finder.proofs.line.line_of.Goals as goal

pub returns : goal.returns
returns c = is_line c.args.steps.now c.args.owners.now c.args.places.now c.args.zones c.in_ok-line.line.items _ c.in_ok-line.ensures c.sort_unstable_by_key.ensures.permutation (IsNonDecreasingBy-from_sort_by_key (λ (r : Ranked). r.rank) _ c.sort_unstable_by_key.ensures.sorted (λ a r q k. search rules))
