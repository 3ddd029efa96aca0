use Rattle.history_picture.specs.Places.{NonePreceded}
use Rattle.history_picture.proofs.fault_reason.preceded.Given as goal

abbrev pub invariant-loop-earlier : goal.invariant-loop-earlier
invariant-loop-earlier l = NonePreceded l.history l.certificate l.earlier l.call
