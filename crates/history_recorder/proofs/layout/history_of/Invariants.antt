use Rattle.std.proofs.Common.{◌≡◌}
use Rattle.std.specs.List.{flat_map}
use Rattle.certificate_checker.specs.Lanes.{calls_of}
use Rattle.history_recorder.proofs.layout.history_of.Given as goal

abbrev pub invariant-loop-lane : goal.invariant-loop-lane
invariant-loop-lane l = l.history ≡ flat_map calls_of l.yielded
