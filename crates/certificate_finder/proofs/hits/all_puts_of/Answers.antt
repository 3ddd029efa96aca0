use Rattle.std.proofs.Common.{length, ap, arith}
use Rattle.certificate_finder.proofs.hits.all_puts_of.Goals as goal

pub soonest_of-requires-clause-few : goal.soonest_of-requires-clause-few
soonest_of-requires-clause-few c = let l = c.in_ok-writes.ensures.lists.few in let few = c.requires.few in let same = ap length c.as_slice.ensures.value in omega arith
