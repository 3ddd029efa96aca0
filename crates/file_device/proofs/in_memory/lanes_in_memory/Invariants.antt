-- As many devices as lanes that were counted, each of this many pages.
use Rattle.std.proofs.Common.{◌≡◌, All, length}
use Rattle.file_device.proofs.in_memory.lanes_in_memory.Given as goal

abbrev pub invariant-loop : goal.invariant-loop
invariant-loop g l = (length l.devices.items ≡ l.counter) × All (λ d. length d ≡ l.pages) l.devices.items
