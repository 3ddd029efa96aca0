-- The counts of two lanes together.
use Rattle.std.proofs.Common.{◌+◌, ◌%◌, ◌^◌, arith}
use Rattle.service_lane.specs.Counters.{number_at, together}
use Rattle.service_lane.proofs.public_laws.Numbers.{counts_are}
use Rattle.service_lane.proofs.counts.Counts.together.Goals as goal

pub returns : goal.returns
unfolding together
returns c =
    let was = c.loop-place.invariant in
    let ended = c.loop-place-test.false in
    counts_are (λ place. (number_at c.args.self.now place + number_at c.args.other.now place) % 2 ^ 64) c.loop-place.numbers was.all (λ place less. was.added place (omega (arith, less, ended)))
