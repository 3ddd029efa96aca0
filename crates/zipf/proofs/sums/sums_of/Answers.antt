-- One sum more, or none is left.
use Rattle.std.proofs.Common.{◌*◌, ◌∷◌, [], ap, arith, length, subst, sym, ◌∙◌}
use Rattle.std.proofs.lemmas.List.{length-append}
use Rattle.zipf.specs.Holding.{AreSums, most_sums}
use Rattle.zipf.specs.Weights.{ahead_of}
use Rattle.zipf.proofs.SumLaws.{are_more, fewer, times_next}
use Rattle.zipf.proofs.WeightLaws.{ahead_none}
use Rattle.zipf.proofs.sums.sums_of.Goals as goal

pub loop-rank-init : goal.loop-rank-init
loop-rank-init c =
    let none = c.new-sums.ensures.items in
    rw none (
      omega arith,
      sym ahead_none,
      omega arith,
      λ place inside. absurd (omega (arith, inside)),
    )

pub added-sum-requires-clause-before : goal.added-sum-requires-clause-before
added-sum-requires-clause-before c = c.loop-rank.invariant.1

pub loop-rank-preserved : goal.loop-rank-preserved
loop-rank-preserved c =
    let i = c.loop-rank.invariant in
    let items = c.in_ok-push.ensures.items in
    let size = ap length items ∙ length-append c.loop-rank.sums.items (c.loop-rank.sum ∷ []) in
    let at = i.0 in
    let below = c.loop-rank-test.true in
    let enough = c.requires.enough in
    let next = times_next (length c.loop-rank.sums.items) c.args.step in
    let few = fewer (length c.loop-rank.sums.items) most_sums c.args.step (omega (arith, at, below, enough)) in (
      omega (arith, at, next) ∙ ap (λ n. n * c.args.step) (sym size),
      c.added-sum.ensures,
      omega (arith, size, few),
      subst (λ s. AreSums s c.args.step) (sym items) (are_more c.loop-rank.sums.items c.loop-rank.sum c.args.step i.3 (i.1 ∙ ap ahead_of at)),
    )

pub returns-clause-some : goal.returns-clause-some
returns-clause-some c =
    let at = c.loop-rank.invariant.0 in
    fewer 0 (length c.loop-rank.sums.items) c.args.step (omega (arith, at, c.loop-rank-test.false, c.requires.some))

pub returns-clause-few : goal.returns-clause-few
returns-clause-few c = c.loop-rank.invariant.2

pub returns-clause-sums : goal.returns-clause-sums
returns-clause-sums c = c.loop-rank.invariant.3
