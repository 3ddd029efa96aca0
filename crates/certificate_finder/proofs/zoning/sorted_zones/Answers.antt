use Rattle.std.proofs.Common.{rules}
use Rattle.std.proofs.lemmas.List.Sorted.{IsNonDecreasingBy-from_sort_by_key}
use Rattle.certificate_finder.specs.Zones.{zone_rank}
use Rattle.certificate_finder.proofs.ZoneLemmas.{are_zones}
use Rattle.certificate_finder.proofs.zoning.sorted_zones.Goals as goal

pub returns : goal.returns
returns c = are_zones c.args.steps.now c.args.owners.now c.in_ok-zones.zones.items _ c.requires.fit c.in_ok-zones.ensures.lists c.in_ok-zones.ensures.apart c.sort_unstable_by_key.ensures.permutation (IsNonDecreasingBy-from_sort_by_key zone_rank _ c.sort_unstable_by_key.ensures.sorted (λ a r q k. search rules))
