-- A lane that was just opened sits in its seat, and its device is as is said.
use Rattle.service_cache.proofs.Seating.{seated_new}
use Rattle.service_cache.proofs.lane.SeatedLane.new.Goals as goal

pub invariant_of-result : goal.invariant_of-result
invariant_of-result g c = (seated_new g.L.KeyLanes.lane_of c.args.register c.args.lane.deeds c.requires.opened, c.requires.honest)
