use Rattle.std.proofs.Common.{◌≡◌, take}
use Rattle.certificate_finder.specs.Lining.{positions_in}
use Rattle.certificate_finder.proofs.line.certificate_of.Given as goal

-- the positions so far are written
abbrev pub invariant-loop-index : goal.invariant-loop-index
invariant-loop-index l = l.certificate ≡ positions_in (take l.index l.spots)
