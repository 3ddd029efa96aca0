use Rattle.std.proofs.Common.{arith}
use Rattle.entry_pool.specs.StrikeChains.{pool_of}
use Rattle.entry_pool.proofs.StrikeMoves.{first-lt, pops_as, pop-fits}
use Rattle.entry_pool.proofs.strike_nodes.StrikeNodes.pop.Goals as goal

pub next-next-requires : goal.next-next-requires
next-next-requires c =
    let lt = first-lt (pool_of c.args.self.now) c.args.set c.requires.sound c.requires.some in
    let is = c.first-at.ensures in
    omega (arith, lt, is)

pub index_mut-requires : goal.index_mut-requires
index_mut-requires c =
    let lt = first-lt (pool_of c.args.self.now) c.args.set c.requires.sound c.requires.some in
    let is = c.first-at.ensures in
    omega (arith, lt, is)

pub overflow_add-self : goal.overflow_add-self
overflow_add-self c =
    let lt = pop-fits (pool_of c.args.self.now) c.args.set c.requires.sound c.requires.set c.requires.some in
    let most = c.requires.sound.bounded in
    omega (arith, lt, most)

pub returns : goal.returns
returns c =
    pops_as (pool_of c.args.self.now) c.args.set c.first-at.result c.count-count.result c.next-next.result c.requires.sound c.requires.set c.requires.some
    c.first-at.ensures c.count-count.ensures c.next-next.ensures
