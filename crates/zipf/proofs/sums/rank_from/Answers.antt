-- The next rank, or this one.
use Rattle.std.proofs.Common.{◌+◌, arith}
use Rattle.zipf.proofs.WeightLaws.{ahead_lt, ahead_more, ahead_most, rank_is}
use Rattle.zipf.proofs.sums.rank_from.Goals as goal

pub overflow_add-after : goal.overflow_add-after
overflow_add-after c =
    let most = ahead_most c.args.ranks in
    let within = c.requires.within in
    let reached = c.requires.reached in
    let few = c.requires.few in
    let own = c.weight.ensures in
    grind (arith, most, within, reached, few, own)

pub loop-after-init : goal.loop-after-init
loop-after-init c =
    let before = c.requires.before in
    let reached = c.requires.reached in
    let within = c.requires.within in (
      ahead_lt c.args.rank c.args.ranks (omega (arith, before, reached, within)),
      omega (arith, before, reached),
      omega (arith, before, c.weight.ensures, ahead_more c.args.rank),
    )

pub overflow_add-after-in-loop-after : goal.overflow_add-after-in-loop-after
overflow_add-after-in-loop-after c =
    let most = ahead_most c.args.ranks in
    let within = c.requires.within in
    let few = c.requires.few in
    let own = c.weight-after.ensures in
    let reached = c.loop-after-test.true in
    grind (arith, most, within, reached, few, own)

pub loop-after-preserved : goal.loop-after-preserved
loop-after-preserved c =
    let i = c.loop-after.invariant in
    let after = i.2 in
    let reached = c.loop-after-test.true in
    let within = c.requires.within in (
      ahead_lt (c.loop-after.rank + 1) c.args.ranks (omega (arith, after, reached, within)),
      omega (arith, after, reached),
      omega (arith, after, c.weight-after.ensures, ahead_more (c.loop-after.rank + 1)),
    )

pub returns-clause-rank : goal.returns-clause-rank
returns-clause-rank c =
    let i = c.loop-after.invariant in
    let after = i.2 in
    rank_is c.args.ranks c.loop-after.rank c.args.point i.0 i.1 (omega (arith, after, c.loop-after-test.false))
