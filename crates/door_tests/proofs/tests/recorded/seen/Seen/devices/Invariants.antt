-- As many devices as lanes so far, each of this many pages.
use Rattle.std.proofs.Common.{◌≡◌, All, length}
use Rattle.door_tests.proofs.tests.recorded.seen.Seen.devices.Given as goal

abbrev pub invariant-loop-lane : goal.invariant-loop-lane
invariant-loop-lane l = (length l.devices.items ≡ l.lane) × All (λ d. length d.pages ≡ l.pages) l.devices.items
