use Rattle.history_recorder.specs.Merging.{IsFirstBelow}
use Rattle.history_recorder.proofs.merging.first_next.Given as goal

abbrev pub invariant-loop-number : goal.invariant-loop-number
invariant-loop-number l = IsFirstBelow l.lanes l.heads l.number l.first
