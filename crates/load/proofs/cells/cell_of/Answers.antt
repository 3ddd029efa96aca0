use Rattle.std.proofs.Common.{◌<◌, ◌+◌, ◌-◌, ◌/◌, ℕ, arith}
use Rattle.load.proofs.TopLaws.{top_of-le}
use Rattle.load.proofs.cells.cell_of.Goals as goal

pub loop-low-preserved-then-tops-middle : goal.loop-low-preserved-then-tops-middle
loop-low-preserved-then-tops-middle c =
    let kept = c.loop-low.invariant in
    let middle : ℕ = c.loop-low.low + (c.loop-low.high - c.loop-low.low) / 2 in
    let inside : middle < c.loop-low.high = let less = c.loop-low-test.true in omega arith in
    let is = c.requires.tops_are.each middle (let high = kept.1 in omega arith) in (
      omega arith,
      kept.1,
      kept.2,
      λ cell before. let order = top_of-le cell middle (omega arith) in let less = c.if-tops-middle.true in omega (arith, is),
    )
