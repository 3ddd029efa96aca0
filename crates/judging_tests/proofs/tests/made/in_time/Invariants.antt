use Rattle.std.proofs.Common.{◌≤◌}
use Rattle.std.specs.Prelude.{All}
use Rattle.trace_file.specs.declared.call.Call.{Call}
use Rattle.judging_tests.proofs.tests.made.in_time.Given as goal

-- no call so far ends before it starts
abbrev pub invariant-loop-position : goal.invariant-loop-position
invariant-loop-position l = All (λ (call : Call). call.start ≤ call.end) l.made
