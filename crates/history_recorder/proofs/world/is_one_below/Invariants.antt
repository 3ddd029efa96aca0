use Rattle.std.proofs.Common.{ℕ, ◌<◌, ◌≤◌, get_or}
use Rattle.history_recorder.proofs.world.is_one_below.Given as goal

-- none of the devices so far has fewer pages
abbrev pub invariant-loop-device : goal.invariant-loop-device
invariant-loop-device g l = (k : ℕ) (d : g.row.D.Denot) → k < l.device-index → l.needed ≤ g.D.PageDevice.page_count (get_or l.devices k d)
