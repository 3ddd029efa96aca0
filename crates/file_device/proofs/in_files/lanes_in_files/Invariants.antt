-- As many devices as lanes so far, each of this many pages.
use Rattle.std.proofs.Common.{◌≡◌, All, length}
use Rattle.file_device.proofs.in_files.lanes_in_files.Given as goal

abbrev pub invariant-loop-lane : goal.invariant-loop-lane
invariant-loop-lane g l = (length l.devices.items ≡ l.lane) × All (λ d. d.pages ≡ l.pages) l.devices.items
