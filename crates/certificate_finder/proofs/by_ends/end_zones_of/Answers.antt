use Rattle.std.proofs.Common.{rules}
use Rattle.std.proofs.lemmas.List.Sorted.{IsNonDecreasingBy-from_sort_by_key}
use Rattle.certificate_finder.specs.Unreading.{end_rank}
use Rattle.certificate_finder.proofs.TopLemmas.{are_end_zones}
use Rattle.certificate_finder.proofs.by_ends.end_zones_of.Goals as goal

pub returns-clause-zones : goal.returns-clause-zones
returns-clause-zones c = are_end_zones c.args.steps.now c.args.owners.now c.in_ok-zones.zones.items _ c.in_ok-zones.ensures c.sort_unstable_by_key.ensures.permutation (IsNonDecreasingBy-from_sort_by_key end_rank _ c.sort_unstable_by_key.ensures.sorted (λ a r q k. search rules))
