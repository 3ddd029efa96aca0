use Rattle.std.proofs.Common.{◌≡◌, length, ap, arith}
use Rattle.entry_pool.specs.StrikeChains.{pool_of}
use Rattle.entry_pool.specs.Struck.{Struck}
use Rattle.entry_pool.specs.StrikePool.{struck_by}
use Rattle.entry_pool.proofs.StrikeSets.{row-lt, clears-to, cleared-struck}
use Rattle.entry_pool.proofs.strike_pool.StrikePool.clear.Goals as goal

pub clear-requires-clause-set : goal.clear-requires-clause-set
clear-requires-clause-set c =
    let p = pool_of c.self.inside.nodes in
    let lt = c.requires in
    let same : length (struck_by p).sets ≡ length c.args.self.now.sets = ap (λ (x : Struck). length x.sets) c.self.view_is in
    row-lt p c.self.invariant c.args.set (omega (arith, lt, same))

pub invariant_of-self : goal.invariant_of-self
invariant_of-self c = cleared-struck (pool_of c.self.inside.nodes) (pool_of c.clear.new.self) c.args.set c.self.invariant c.clear.ensures

pub returns : goal.returns
returns c =
    let p = pool_of c.self.inside.nodes in
    let lt = c.requires in
    let same : length (struck_by p).sets ≡ length c.args.self.now.sets = ap (λ (x : Struck). length x.sets) c.self.view_is in
    clears-to p c.self.invariant c.args.set 0 (row-lt p c.self.invariant c.args.set (omega (arith, lt, same))) (pool_of c.clear.new.self) c.args.self.now c.self.view_is c.clear.ensures
