-- The first cell ends at 1, and half of the times are in it.
use Rattle.std.proofs.Common.{arith}
use Rattle.std.proofs.lemmas.Grind.{common_steps}
use Rattle.load.specs.Cells.{top_of}
use Rattle.door_tests.proofs.tests.serving.times.half_of_two.Goals as goal

pub returns : goal.returns
unfolding top_of
returns c = grind (arith, common_steps, c.quantile.ensures.least 0)
