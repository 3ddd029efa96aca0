-- The done calls of a lane, by its calls and their ends.
use Rattle.std.specs.Prelude.{ℕ, List, [], ◌∷◌}
use Rattle.trace_file.specs.declared.call.Call.{Call}
use Rattle.certificate_checker.specs.declared.done.Done.{Done}

-- a call that is kept with its point for its end, and the stamp at which it ended
abbrev pub done_with : Call → ℕ → Done
done_with call end = record {
  call = record { caller = call.caller; start = call.start; end = end; key = call.key; act = call.act };
  point = call.end;
}

-- such calls of a lane, each with the end at its position
abbrev pub dones_in : List Call → List ℕ → List Done
dones_in (call ∷ calls) (end ∷ ends) = done_with call end ∷ dones_in calls ends
dones_in calls ends = []
