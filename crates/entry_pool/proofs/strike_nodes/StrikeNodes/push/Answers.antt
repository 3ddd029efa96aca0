use Rattle.std.proofs.Common.{arith}
use Rattle.entry_pool.specs.StrikeChains.{pool_of}
use Rattle.entry_pool.proofs.StrikeMoves.{free-lt, pushes_as}
use Rattle.entry_pool.proofs.strike_nodes.StrikeNodes.push.Goals as goal

pub next-next-requires : goal.next-next-requires
next-next-requires c = free-lt (pool_of c.args.self.now) c.requires.sound c.requires.room

pub index_mut-requires : goal.index_mut-requires
index_mut-requires c =
    let lt = free-lt (pool_of c.args.self.now) c.requires.sound c.requires.room in
    let same = c.requires.sound.nodes in
    omega (arith, lt, same)

pub index_mut-requires-2 : goal.index_mut-requires-2
index_mut-requires-2 c =
    let lt = free-lt (pool_of c.args.self.now) c.requires.sound c.requires.room in
    omega (arith, lt)

pub returns : goal.returns
returns c =
    pushes_as (pool_of c.args.self.now) c.args.set c.args.hash c.first-first.result c.count-count.result c.next-next.result c.requires.sound c.requires.set c.requires.few c.requires.room
    c.first-first.ensures c.count-count.ensures c.next-next.ensures
