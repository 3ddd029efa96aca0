use Rattle.certificate_finder.specs.Offering.{AreLinksUpto}
use Rattle.certificate_finder.proofs.links.links_of.Given as goal

-- the puts so far have their links
abbrev pub invariant-loop-index : goal.invariant-loop-index
invariant-loop-index l = AreLinksUpto l.puts l.index l.links.items
