-- As many slots as were counted, which have seen no write.
use Rattle.std.proofs.Common.{◌≡◌, replicate}
use Rattle.service_lane.proofs.slots.Slots.open.Given as goal

abbrev pub invariant-loop : goal.invariant-loop
invariant-loop l = l.writes.items ≡ replicate l.counter 0
