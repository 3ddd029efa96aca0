use Rattle.std.proofs.Common.{◌≡◌, get_or, arith}
use Rattle.entry_pool.specs.StrikeChains.{pool_of}
use Rattle.entry_pool.proofs.StrikeMoves.{marks-none}
use Rattle.entry_pool.proofs.strike_nodes.StrikeNodes.clear.Goals as goal

pub returns : goal.returns
returns c =
    let p = pool_of c.loop-self.self in
    let none : get_or p.counts c.args.set 0 ≡ 0 = let is = c.count.ensures in let le = c.loop-self-test.false in omega (arith, is, le) in
    let kept = c.loop-self.invariant.3 in
    record {
      sound = c.loop-self.invariant.0;
      sizes = c.loop-self.invariant.1;
      own = marks-none p c.args.set none;
      others = c.loop-self.invariant.2;
      free = omega (arith, kept, none);
    }
