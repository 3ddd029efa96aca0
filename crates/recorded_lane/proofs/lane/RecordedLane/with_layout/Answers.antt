-- A lane that was just opened.
use Rattle.std.proofs.Common.{ap}
use Rattle.recorded_lane.proofs.Noting.{noted_opened}
use Rattle.recorded_lane.proofs.lane.RecordedLane.with_layout.Goals as goal

pub invariant_of-result : goal.invariant_of-result
invariant_of-result g c =
    let opened = c.in_ok-store.ensures in
    noted_opened c.in_ok-store.store.store c.args.layout.now c.args.lane c.new.result c.in_ok-store.store.deeds c.requires.lane (ap (λ s. s.store.layout) opened) c.new.ensures (ap (λ s. s.deeds) opened)
