-- No number is above 0.
use Rattle.std.proofs.Common.{refl}
use Rattle.service_lane.specs.Counters.{counts_by}
use Rattle.service_lane.proofs.counts.Counts.none.Goals as goal

pub returns : goal.returns
unfolding counts_by
returns c = refl
