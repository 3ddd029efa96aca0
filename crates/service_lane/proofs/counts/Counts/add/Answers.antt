-- One number is more, and the others stay.
use Rattle.std.proofs.Common.{◌+◌, ◌%◌, ◌^◌, ap, set, ◌∙◌, rules}
use Rattle.service_lane.specs.Counters.{number_at}
use Rattle.service_lane.proofs.public_laws.Numbers.{more_there}
use Rattle.service_lane.proofs.counts.Counts.add.Goals as goal

pub returns : goal.returns
returns c =
    let a = c.args in
    let counts = a.self.now in
    ap (λ place. record { numbers = set counts.numbers place ((number_at counts place + a.more) % 2 ^ 64) }) c.place-place.ensures.place ∙ more_there a.counter a.more counts (search rules)
