use Rattle.std.proofs.Common.{◌≡◌, length, ap, ◌∙◌, arith}
use Rattle.std.specs.FinSet.{contains}
use Rattle.entry_pool.specs.StrikeChains.{pool_of}
use Rattle.entry_pool.specs.Struck.{Struck, struck_at}
use Rattle.entry_pool.specs.StrikePool.{struck_by}
use Rattle.entry_pool.proofs.StrikeSets.{row-lt, has-struck}
use Rattle.entry_pool.proofs.strike_pool.StrikePool.has.Goals as goal

pub has-requires-clause-set : goal.has-requires-clause-set
has-requires-clause-set c =
    let p = pool_of c.self.inside.nodes in
    let lt = c.requires in
    let same : length (struck_by p).sets ≡ length c.args.self.now.sets = ap (λ (x : Struck). length x.sets) c.self.view_is in
    row-lt p c.self.invariant c.args.set (omega (arith, lt, same))

pub returns : goal.returns
returns c =
    let p = pool_of c.self.inside.nodes in
    let lt = c.requires in
    let same : length (struck_by p).sets ≡ length c.args.self.now.sets = ap (λ (x : Struck). length x.sets) c.self.view_is in
    c.has.ensures ∙ has-struck p c.self.invariant c.args.set c.args.hash (row-lt p c.self.invariant c.args.set (omega (arith, lt, same)))
    ∙ ap (λ (x : Struck). contains (struck_at x c.args.set) c.args.hash) c.self.view_is
