use Rattle.std.proofs.Common.{◌-◌}
use Rattle.load.specs.Cells.{longest}
use Rattle.load.proofs.TopLaws.{Grows}
use Rattle.load.proofs.cells.tops.Given as goal

abbrev pub invariant-loop-top : goal.invariant-loop-top
invariant-loop-top l = Grows l.tops.items l.top

abbrev pub decreases-loop-top : goal.decreases-loop-top
decreases-loop-top l = longest - l.top
