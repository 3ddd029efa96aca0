use Rattle.history_recorder.specs.Merging.{ListsSoFar}
use Rattle.history_recorder.proofs.Listings.{left}
use Rattle.history_recorder.proofs.merging.certificate_of.Given as goal

abbrev pub invariant-loop-next : goal.invariant-loop-next
invariant-loop-next l = ListsSoFar l.lanes l.heads.items l.certificate

abbrev pub decreases-loop-next : goal.decreases-loop-next
decreases-loop-next l = left l.lanes l.heads.items
