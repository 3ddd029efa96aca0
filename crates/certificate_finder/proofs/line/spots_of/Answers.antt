use Rattle.std.proofs.Common.{length, arith, rules}
use Rattle.std.proofs.lemmas.List.Sorted.{IsNonDecreasingBy-from_sort_by_key}
use Rattle.certificate_finder.specs.declared.ranked.Ranked.{Ranked}
use Rattle.certificate_finder.proofs.SpotLemmas.{spots_end}
use Rattle.certificate_finder.proofs.line.spots_of.Goals as goal

pub returns : goal.returns
returns c = λ history are inline. let h = c.in_ok-spots.ensures history are inline in spots_end history c.args.steps.now are c.args.line.now inline c.in_ok-spots.spots.items _ (length c.args.line.now) h.0 h.1 (omega arith) c.sort_unstable_by_key.ensures.permutation (IsNonDecreasingBy-from_sort_by_key (λ (r : Ranked). r.rank) _ c.sort_unstable_by_key.ensures.sorted (λ a r q k. search rules))
