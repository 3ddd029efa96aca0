use Rattle.std.proofs.Common.{ℕ, ◌<◌, slice_index_or}
use Rattle.page_device.proofs.fits.is_one_too_small.Given as goal

abbrev pub invariant-loop-device : goal.invariant-loop-device
invariant-loop-device g l = (k : ℕ) (d : g.row.D.Denot) → k < l.device-index → ¬ (g.D.PageDevice.page_count (slice_index_or l.devices k d) < l.pages)
