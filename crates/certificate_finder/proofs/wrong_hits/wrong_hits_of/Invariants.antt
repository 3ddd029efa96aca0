use Rattle.std.proofs.Common.{take}
use Rattle.certificate_finder.specs.Excluding.{AreWrongAt}
use Rattle.certificate_finder.specs.Lining.{positions_in}
use Rattle.certificate_finder.proofs.wrong_hits.wrong_hits_of.Given as goal

-- the hits so far have their excuses
abbrev pub invariant-loop-index : goal.invariant-loop-index
invariant-loop-index l = AreWrongAt l.steps l.most (take l.index (positions_in l.wrong)) l.hits.items
