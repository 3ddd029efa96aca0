use Rattle.std.proofs.Common.{◌≡◌, map}
use Rattle.history_recorder.specs.Books.{closed}
use Rattle.history_recorder.proofs.lane_calls.LaneCalls.into_dones.Given as goal

-- the calls so far are done
abbrev pub invariant-loop-booked : goal.invariant-loop-booked
invariant-loop-booked l = l.dones ≡ map (closed l.last) l.yielded
