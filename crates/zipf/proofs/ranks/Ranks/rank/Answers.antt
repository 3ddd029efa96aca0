-- The point lies within the weights, and the first sum is no more.
use Rattle.std.proofs.Common.{◌*◌, ◌≡◌, ap, arith, slice_index, ◌∙◌}
use Rattle.zipf.specs.Weights.{ahead_of}
use Rattle.zipf.proofs.WeightLaws.{ahead_le, ahead_more, ahead_none}
use Rattle.zipf.proofs.ranks.Ranks.rank.Goals as goal

pub point_of-point-requires : goal.point_of-point-requires
point_of-point-requires c =
    let first = ahead_more 0 in
    let none = ahead_none in
    let order = ahead_le 1 c.self.inside.ranks c.self.invariant.some_ranks in
    omega (arith, first, none, order, c.self.invariant.total_is)

pub place_of-place-requires-clause-first : goal.place_of-place-requires-clause-first
place_of-place-requires-clause-first c =
    let zero_at : slice_index c.self.inside.sums.items 0 ≡ ahead_of (0 * c.self.inside.step) = c.self.invariant.sums_are 0 c.self.invariant.some in
    let start : 0 * c.self.inside.step ≡ 0 = omega arith in
    let none : slice_index c.deref.result.now 0 ≡ 0 = ap (λ s. slice_index s 0) c.deref.ensures.value ∙ zero_at ∙ ap ahead_of start ∙ ahead_none in
    omega (arith, none)
