use Rattle.std.proofs.Common.{rules}
use Rattle.std.proofs.lemmas.List.Sorted.{IsNonDecreasingBy-from_sort_by_key}
use Rattle.certificate_finder.specs.Putting.{put_rank}
use Rattle.certificate_finder.proofs.PutLemmas.{are_puts}
use Rattle.certificate_finder.proofs.puts.puts_of.Goals as goal

pub returns : goal.returns
returns c = are_puts c.args.steps.now c.in_ok-puts.puts.items _ c.requires.fit c.in_ok-puts.ensures.lists c.in_ok-puts.ensures.apart c.sort_unstable_by_key.ensures.permutation (IsNonDecreasingBy-from_sort_by_key put_rank _ c.sort_unstable_by_key.ensures.sorted (λ a r q k. search rules))
