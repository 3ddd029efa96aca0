-- One weight more.
use Rattle.std.proofs.Common.{arith}
use Rattle.zipf.proofs.WeightLaws.{ahead_more, ahead_most}
use Rattle.zipf.proofs.sums.added.Goals as goal

pub overflow_add-sum : goal.overflow_add-sum
overflow_add-sum c =
    let sum = c.loop-next.invariant in
    let most = ahead_most c.loop-next.next in
    let own = c.weight-sum.ensures in
    let few = c.requires.few in
    let below = c.loop-next-test.true in
    grind (arith, sum, most, own, few, below)

pub loop-next-preserved : goal.loop-next-preserved
loop-next-preserved c =
    let sum = c.loop-next.invariant in
    let own = c.weight-sum.ensures in
    omega (arith, sum, own, ahead_more c.loop-next.next)
