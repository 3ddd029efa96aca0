use Rattle.std.proofs.Common.{arith}
use Rattle.cache_sizes.specs.Lanes.{lanes_wanted}
use Rattle.cache_sizes.proofs.DividingLaws.{lanes_are_wide}
use Rattle.cache_sizes.proofs.lanes.lanes_wanted.Goals as goal

pub returns-clause-wide : goal.returns-clause-wide
unfolding lanes_wanted
returns-clause-wide c = omega (arith, lanes_are_wide c.args.pages c.args.threads)
