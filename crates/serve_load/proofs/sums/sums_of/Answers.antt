-- One tally more, or no more.
use Rattle.std.proofs.Common.{arith}
use Rattle.serve_load.proofs.Adding.{all_made, few_completed, one_adds}
use Rattle.serve_load.proofs.sums.sums_of.Goals as goal

pub loop-preserved : goal.loop-preserved
loop-preserved g c =
    let i = c.loop.invariant in
    let o = c.in_ok-add.ensures.operations in
    let r = c.in_ok-add.ensures.refused in
    let w = c.in_ok-add.ensures.whole in
    let h = c.in_ok-add.ensures.hits in
    let t = c.in-Ok.tally in (
      let b = i.0 in let s = t.some in grind (arith, o, b, s),
      let b = i.1 in let s = t.few_refused in omega (arith, o, b, s, r),
      let b = i.2 in let s = few_completed t.counted.stop in omega (arith, b, s, w),
      one_adds _ _ _ _ _ _ t.counted _ _ _ _ i.3 t.is o r w h,
      all_made g.M.Tallying.seconds g.M.Tallying.most t.counted t.whole _ _ _ _ i.4 w o,
    )
