use Rattle.std.proofs.Common.{rules}
use Rattle.std.proofs.lemmas.List.Sorted.{IsNonDecreasingBy-from_sort_by_key}
use Rattle.certificate_finder.specs.Writing.{write_rank}
use Rattle.certificate_finder.proofs.WriteLemmas.{are_writes}
use Rattle.certificate_finder.proofs.writes.writes_of.Goals as goal

pub returns : goal.returns
returns c = are_writes c.args.steps.now c.in_ok-writes.writes.items _ c.requires.fit c.in_ok-writes.ensures c.sort_unstable_by_key.ensures.permutation (IsNonDecreasingBy-from_sort_by_key write_rank _ c.sort_unstable_by_key.ensures.sorted (λ a r q k. search rules))
