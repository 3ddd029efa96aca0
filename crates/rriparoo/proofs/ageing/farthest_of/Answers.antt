-- One item more.
use Rattle.std.proofs.Common.{◌∙◌, ap, sym}
use Rattle.rriparoo.specs.Ageing.{farther}
use Rattle.rriparoo.proofs.AgeingLaws.{farthest-more, bound-more}
use Rattle.rriparoo.proofs.ageing.farthest_of.Goals as goal

pub loop-item-preserved : goal.loop-item-preserved
loop-item-preserved c = record {
  value = c.farther_of-far.ensures.value ∙ ap (λ far. farther far c.item-item.result) c.loop-item.invariant.value ∙ sym (farthest-more c.args.items.now c.loop-item.item-index c.item-item.result c.loop-item-test.true c.item-item.is);
  range = c.farther_of-far.ensures.range;
  bound = bound-more c.args.items.now c.loop-item.item-index c.loop-item.far c.farther_of-far.result c.item-item.result c.loop-item-test.true c.item-item.is c.loop-item.invariant.bound c.farther_of-far.ensures.bound.0 c.farther_of-far.ensures.bound.1;
}
