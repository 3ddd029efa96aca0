use Rattle.std.specs.Prelude.{List}
use Rattle.trace_file.specs.declared.call.Call.{Call}
use Rattle.certificate_finder.specs.Lining.{HavePoints, InLine, positions_in}
use Rattle.certificate_finder.specs.Steps.{AreSteps}
use Rattle.certificate_finder.proofs.line.listed_spots.Given as goal

-- the calls of the line so far have points, whatever history they are of
abbrev pub invariant-loop-place : goal.invariant-loop-place
invariant-loop-place l = (history : List Call) → AreSteps history l.steps → InLine history l.steps (positions_in l.line) → HavePoints history l.line l.spots.items l.place l.point
