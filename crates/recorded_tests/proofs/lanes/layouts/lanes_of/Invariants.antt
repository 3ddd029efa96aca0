use Rattle.std.proofs.Common.{◌≡◌, ◌+◌, length}
use Rattle.std.specs.Prelude.{All}
use Rattle.std.specs.List.{flat_map}
use Rattle.certificate_checker.specs.Lanes.{calls_of, PointsRise}
use Rattle.recorded_tests.proofs.lanes.layouts.lanes_of.Given as goal

abbrev pub invariant-loop-lane : goal.invariant-loop-lane
invariant-loop-lane l =
    All PointsRise l.lanes.items × (length (flat_map calls_of l.lanes.items) + l.left ≡ 100)
