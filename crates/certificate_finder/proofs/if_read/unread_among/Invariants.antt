use Rattle.certificate_finder.specs.Lining.{positions_in}
use Rattle.certificate_finder.specs.Unreading.{AreUnreadUpto}
use Rattle.certificate_finder.proofs.if_read.unread_among.Given as goal

-- of the hits so far those are listed whose puts would all be crossed
abbrev pub invariant-loop-index : goal.invariant-loop-index
invariant-loop-index l = AreUnreadUpto l.steps l.groups.owners.items l.most (positions_in l.hits) l.index l.found.items
