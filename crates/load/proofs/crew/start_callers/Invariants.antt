-- The callers that are left are of the load.
use Rattle.std.proofs.Common.{All}
use Rattle.load.proofs.crew.start_callers.Given as goal

abbrev pub invariant-loop-caller : goal.invariant-loop-caller
invariant-loop-caller g l = All (g.C.Crew.is_of l.crew) l.callers.items

abbrev pub decreases-loop-caller : goal.decreases-loop-caller
decreases-loop-caller g l = goal.left-loop-caller g l
