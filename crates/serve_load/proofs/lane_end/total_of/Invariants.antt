-- The total is that of the lanes so far.
use Rattle.std.proofs.Common.{◌≡◌, fold, take}
use Rattle.serve_load.specs.Totals.{joined}
use Rattle.serve_load.proofs.lane_end.total_of.Given as goal

abbrev pub invariant-loop-lane : goal.invariant-loop-lane
invariant-loop-lane l = l.total ≡ fold joined l.initial.total (take l.lane-index l.lane-items)
