-- A lock for each lane that was taken.
use Rattle.std.proofs.Common.{◌≡◌, ◌+◌, length}
use Rattle.service_cache.proofs.opening.under_locks.Given as goal

abbrev pub invariant-loop : goal.invariant-loop
invariant-loop g l = record {
  made : length l.lanes.items ≡ l.counter;
  left : length l.seated.items + l.counter ≡ l.count;
}
