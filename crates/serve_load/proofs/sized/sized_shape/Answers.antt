-- The numbers are those of the shape.
use Rattle.std.proofs.Common.{refl, subst}
use Rattle.record_pages.specs.Asked.{HasNumbersOf}
use Rattle.cache_sizes.specs.Shapes.{IsShapeFor}
use Rattle.serve_load.proofs.sized.sized_shape.Goals as goal

pub returns-clause-sized : goal.returns-clause-sized
returns-clause-sized c = record {
  shape = c.in_ok-shape.shape;
  fits = subst (λ w. IsShapeFor w c.in_ok-shape.shape) c.wanted.ensures c.in_ok-shape.ensures.outcome.1;
  numbers = subst (λ k. HasNumbersOf c.in-Ok.layout k) c.config.ensures.numbers c.in-Ok.ensures.1;
  groups = refl;
}
