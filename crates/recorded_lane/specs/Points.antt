-- Recorded calls that are kept with their point in the end's place.
use Rattle.trace_file.specs.declared.call.Call.{Call}
use Rattle.trace_file.specs.Lent.{act_shown}
use Rattle.recorded_lane.specs.declared.noted.Noted.{Noted}
use Rattle.recorded_lane.specs.declared.noted_ref.NotedRef.{NotedRef}

-- a recorded call as one that ends at its point
abbrev pub at_point : Noted → Call
at_point n = record { caller = n.caller; start = n.start; end = n.point; key = n.key; act = n.act }

-- the recorded call that is kept as this one
abbrev pub noted_in : Call → Noted
noted_in c = record { caller = c.caller; start = c.start; point = c.end; key = c.key; act = c.act }

-- the recorded call that a lent one shows
abbrev pub noted_shown : NotedRef → Noted
noted_shown r = record { caller = r.caller; start = r.start; point = r.point; key = r.key.now; act = act_shown r.act }
