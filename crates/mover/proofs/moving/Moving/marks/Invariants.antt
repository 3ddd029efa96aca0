use Rattle.std.proofs.Common.{◌≡◌, map, take}
use Rattle.klog.specs.Log.{Shape}
use Rattle.mover.specs.Flight.{records_of, fresh_mark}
use Rattle.mover.proofs.moving.Moving.marks.Given as goal

abbrev pub invariant-loop-number : goal.invariant-loop-number
invariant-loop-number l = (shape : Shape) → l.marks ≡ map (fresh_mark shape) (take l.number (records_of l.self))
