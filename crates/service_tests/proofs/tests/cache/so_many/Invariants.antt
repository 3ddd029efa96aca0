-- A device for each lane so far.
use Rattle.std.proofs.Common.{◌≡◌, length}
use Rattle.service_tests.proofs.tests.cache.so_many.Given as goal

abbrev pub invariant-loop : goal.invariant-loop
invariant-loop l = length l.devices.items ≡ l.counter
