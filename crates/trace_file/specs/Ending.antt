-- Calls with other ends.
use Rattle.std.specs.Prelude.{ℕ, List, [], ◌∷◌}
use Rattle.trace_file.specs.declared.call.Call.{Call}

-- a call with this end in place of its own
abbrev pub ending_at : Call → ℕ → Call
ending_at call end = record { caller = call.caller; start = call.start; end = end; key = call.key; act = call.act }

-- calls, each with the end at its position in place of its own
abbrev pub each_ending : List Call → List ℕ → List Call
each_ending (call ∷ calls) (end ∷ ends) = ending_at call end ∷ each_ending calls ends
each_ending calls ends = []
